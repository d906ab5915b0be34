-- What is read of a list, item by item.
use Rattle.std.proofs.Common.{◌≡◌, List, [], ◌∷◌, ◌++◌, Ok, Err, refl, ap, append_assoc}
use Rattle.table_records.specs.Tables.{Read, then_read}

-- what was read first, and then the rest
abbrev pub read_after : {A : Type 0} → List A → Read (List A) → Read (List A)
read_after done rest = then_read rest (λ more. Ok (done ++ more))

abbrev pub read_first : {A : Type 0} → Read A → Read (List A) → Read (List A)
read_first first rest = then_read first (λ x. then_read rest (λ more. Ok (x ∷ more)))

go_on : {A : Type 0} (done : List A) (x : A) (rest : Read (List A)) → read_after (done ++ x ∷ []) rest ≡ read_after done (read_first (Ok x) rest)
go_on done x (Ok more) = ap Ok (append_assoc done (x ∷ []) more)
go_on done x (Err fault) = refl

pub one_more : {A : Type 0} (done : List A) (x : A) (first : Read A) (rest : Read (List A)) → first ≡ Ok x →
    read_after (done ++ x ∷ []) rest ≡ read_after done (read_first first rest)
one_more done x first rest e = rw e (go_on done x rest)
