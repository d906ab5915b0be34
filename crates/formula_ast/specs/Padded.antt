-- The text of a name at the start of as many bytes as a name may have, with zeros after it.
use Rattle.std.specs.Prelude.{◌≡◌, ℕ, ◌-◌, ◌≤◌, List, ◌++◌, length, take, replicate}
use Rattle.std.proofs.Common.{ap, sym, arith}
use Rattle.std.proofs.lemmas.List.{length-take}
use Rattle.formula_ast.specs.Names.{name_limit}
use Rattle.formula_ast.specs.declared.name.Name.TheInside.{Inside}

pub record IsPadded (name : Inside) : Type 0 where
  pub fits : name.len ≤ name_limit
  pub whole : length name.text ≡ name_limit
  pub zeros : name.text ≡ take name.len name.text ++ replicate (name_limit - name.len) 0

abbrev pub padded : List ℕ → Inside
padded text = record { text = text ++ replicate (name_limit - length text) 0; len = length text }

pub padded_ok : (name : Inside) → IsPadded name → padded (take name.len name.text) ≡ name
padded_ok name p =
    let taken : length (take name.len name.text) ≡ name.len = omega (arith, length-take {A = ℕ} name.len name.text, p.fits, p.whole) in
    let short : List ℕ → Inside = λ t. record { text = t; len = name.len } in
    rw taken (ap short (sym p.zeros))
