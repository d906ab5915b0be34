use Rattle.std.proofs.Common.{◌≡◌, ◌∙◌, ◌*◌, SFits, ap, rules}
use Rattle.std.specs.Prelude.{pos}
use Rattle.std.specs.Int.{w64}
use Rattle.std.proofs.lemmas.Int.{to_z-of_z}
use Rattle.std.proofs.lemmas.Option.{IfSome_then}
use Rattle.exact_fraction.specs.Number.{of_ℤ}
use Rattle.plain_law.specs.Numbers.{number}
use Rattle.plain_law.proofs.PlaceLemmas.{square_of}
use Rattle.plain_law.proofs.place.Place.scaled_square.Goals as goal

pub returns : goal.returns
returns c =
    let fits : SFits w64 c.from.result = search rules in
    let w : number c.whole.result ≡ of_ℤ (pos (c.args.root * c.args.root)) =
    c.whole.ensures ∙ ap of_ℤ (to_z-of_z w64 c.from.result fits ∙ c.from.ensures ∙ ap (λ n. pos (n * n)) c.from-root.ensures) in
    IfSome_then c.times-2.result c.times-2.ensures
    (λ s h. square_of c.args.root c.args.self _ _ (number s) c.requires.unit w c.in_ok-times.ensures h)
