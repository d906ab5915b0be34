use Rattle.std.proofs.Common.{OnOk, sym, subst}
use Rattle.sheet_rows.specs.Rows.{row_of}
use Rattle.sheet_model.specs.Statements.{StatesMore}
use Rattle.sheet_model.proofs.Stated.{given_more, pair_more}
use Rattle.sheet_model.proofs.statements.Statements.add.Goals as goal

pub returns-in-Given : goal.returns-in-Given
returns-in-Given c =
    subst (λ row. OnOk c.add_shape.result (StatesMore c.args.self.now (row_of row) c.add_shape.new.self)) (sym c.in-Given.is)
    (given_more c.add_shape.result c.args.self.now c.add_shape.new.self c.in-Given.name c.in-Given.estimate c.in-Given.shape c.in-Given.dof
    c.add_shape.ensures.shapes c.add_shape.ensures.correlated)

pub returns-in-Correlation : goal.returns-in-Correlation
returns-in-Correlation c =
    subst (λ row. OnOk c.add_pair.result (StatesMore c.args.self.now (row_of row) c.add_pair.new.self)) (sym c.in-Correlation.is)
    (pair_more c.add_pair.result c.args.self.now c.add_pair.new.self c.in-Correlation.name c.in-Correlation.first c.in-Correlation.second
    c.in-Correlation.coefficient c.add_pair.ensures.correlated c.add_pair.ensures.shapes)
