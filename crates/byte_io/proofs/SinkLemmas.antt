-- What several writes took, and the room that they left.
use Rattle.std.proofs.Common.{◌≡◌, ℕ, ◌+◌, ◌≤◌, List, [], ◌++◌, length, take, drop, Option, Some, None, sym, ap, ◌∙◌, subst, arith, length-append}
use Rattle.std.proofs.lemmas.List.{length-take-le, take_all, take-append-le}
use Rattle.std.proofs.Math.Seq.{take-add, take-append-add}
use Rattle.std.proofs.KnownBytes.{Appends-nil, Appends-trans, Appends-kept}
use Rattle.std.specs.Io.KnownBytes.{Appends, Keeps}
use Rattle.byte_io.specs.Sink.{HasRoom, Falls, Wrote, WrotePart}

-- room for some bytes is room for fewer
pub HasRoom-fewer : (room : Option ℕ) (m n : ℕ) → m ≤ n → HasRoom room n → HasRoom room m
HasRoom-fewer None m n fewer enough = tt
HasRoom-fewer (Some room) m n fewer enough = omega arith

-- room for n bytes, of which m are used, is room for k where m and k are no more than n
pub HasRoom-falls : (old new : Option ℕ) (m n k : ℕ) → HasRoom old n → Falls old new m → m + k ≤ n → HasRoom new k
HasRoom-falls None None m n k enough falls fewer = tt
HasRoom-falls None (Some new) m n k enough falls fewer = absurd falls
HasRoom-falls (Some old) None m n k enough falls fewer = absurd falls
HasRoom-falls (Some old) (Some new) m n k enough falls fewer = omega arith

pub Falls-nothing : (room : Option ℕ) → Falls room room 0
Falls-nothing None = tt
Falls-nothing (Some room) = omega arith

pub Falls-trans : (a b c : Option ℕ) (m n : ℕ) → Falls a b m → Falls b c n → Falls a c (m + n)
Falls-trans None None None m n p q = tt
Falls-trans None None (Some c) m n p q = q
Falls-trans None (Some b) c m n p q = absurd p
Falls-trans (Some a) None c m n p q = absurd p
Falls-trans (Some a) (Some b) None m n p q = q
Falls-trans (Some a) (Some b) (Some c) m n p q = omega arith

-- before the first write
pub Wrote-nothing : (written : Option (List ℕ)) (room : Option ℕ) → Wrote written written room room []
Wrote-nothing written room = record { appended = Appends-nil written; used = Falls-nothing room }

-- writes, and then more writes
pub Wrote-trans : {written written' written'' : Option (List ℕ)} {room room' room'' : Option ℕ} {first second : List ℕ}
    → Wrote written written' room room' first → Wrote written' written'' room' room'' second → Wrote written written'' room room'' (first ++ second)
Wrote-trans {room} {room'} {room''} {first} {second} p q = record {
  appended = Appends-trans _ _ _ first second p.appended q.appended;
  used = subst (Falls room room'') (sym (length-append first second)) (Falls-trans room room' room'' (length first) (length second) p.used q.used);
}

-- one write that took n bytes
pub Wrote-write : (n : ℕ) (written written' : Option (List ℕ)) (room room' : Option ℕ) (piece : List ℕ)
    → n ≤ length piece → Appends written written' (take n piece) → Falls room room' n → Wrote written written' room room' (take n piece)
Wrote-write n written written' room room' piece within appended used = record {
  appended = appended;
  used = subst (Falls room room') (sym (length-take-le n piece within)) used;
}

-- a prefix of the bytes is written, and then a write of the rest took n of it
pub Wrote-more : (at n : ℕ) (written written' written'' : Option (List ℕ)) (room room' room'' : Option ℕ) (bytes rest : List ℕ)
    → Wrote written written' room room' (take at bytes) → rest ≡ drop at bytes → n ≤ length rest → Appends written' written'' (take n rest) → Falls room' room'' n
    → Wrote written written'' room room'' (take (at + n) bytes)
Wrote-more at n written written' written'' room room' room'' bytes rest wrote is_rest within appended used =
    let more = Wrote-trans wrote (Wrote-write n written' written'' room' room'' rest within appended used) in
    subst (Wrote written written'' room room'') (ap (λ l. take at bytes ++ take n l) is_rest ∙ sym (take-add at n bytes)) more

-- writes, and then one that failed
pub Wrote-failed : (written written' written'' : Option (List ℕ)) (room room' room'' : Option ℕ) (bytes : List ℕ)
    → Wrote written written' room room' bytes → Keeps written' written'' → room'' ≡ room' → Wrote written written'' room room'' bytes
Wrote-failed written written' written'' room room' room'' bytes wrote kept same = record {
  appended = Appends-kept _ _ _ bytes wrote.appended kept;
  used = subst (λ left. Falls room left (length bytes)) (sym same) wrote.used;
}

-- room for n bytes, of which some are written, is room for k where both are no more than n
pub Wrote-room : (n k : ℕ) (written written' : Option (List ℕ)) (room room' : Option ℕ) (bytes : List ℕ)
    → Wrote written written' room room' bytes → HasRoom room n → length bytes + k ≤ n → HasRoom room' k
Wrote-room n k written written' room room' bytes wrote enough fewer = HasRoom-falls room room' (length bytes) n k enough wrote.used fewer

-- a prefix that stands in the bytes was written
pub WrotePart-prefix : (many : ℕ) (written written' : Option (List ℕ)) (room room' : Option ℕ) (bytes : List ℕ)
    → many ≤ length bytes → Wrote written written' room room' (take many bytes) → WrotePart written written' room room' bytes
WrotePart-prefix many written written' room room' bytes within wrote = record { many = many; within = within; wrote = wrote }

-- a whole is a prefix of itself
pub WrotePart-whole : (written written' : Option (List ℕ)) (room room' : Option ℕ) (bytes : List ℕ)
    → Wrote written written' room room' bytes → WrotePart written written' room room' bytes
WrotePart-whole written written' room room' bytes wrote =
    WrotePart-prefix (length bytes) written written' room room' bytes (omega arith)
    (subst (Wrote written written' room room') (sym (take_all (length bytes) bytes (omega arith))) wrote)

-- a prefix of some bytes is a prefix of the same bytes and more
pub WrotePart-longer : (written written' : Option (List ℕ)) (room room' : Option ℕ) (bytes more : List ℕ)
    → WrotePart written written' room room' bytes → WrotePart written written' room room' (bytes ++ more)
WrotePart-longer written written' room room' bytes more part =
    WrotePart-prefix part.many written written' room room' (bytes ++ more) (omega (arith, part.within, length-append bytes more))
    (subst (Wrote written written' room room') (sym (take-append-le part.many bytes more part.within)) part.wrote)

-- some bytes were written, and then a prefix of others
pub WrotePart-after : (written written' written'' : Option (List ℕ)) (room room' room'' : Option ℕ) (first second : List ℕ)
    → Wrote written written' room room' first → WrotePart written' written'' room' room'' second → WrotePart written written'' room room'' (first ++ second)
WrotePart-after written written' written'' room room' room'' first second wrote part =
    WrotePart-prefix (length first + part.many) written written'' room room'' (first ++ second) (omega (arith, part.within, length-append first second))
    (subst (Wrote written written'' room room'') (sym (take-append-add first second part.many)) (Wrote-trans wrote part.wrote))

pub ruleset sink_steps = (HasRoom-fewer, HasRoom-falls, Falls-nothing, Falls-trans, Wrote-nothing, Wrote-trans, Wrote-write, Wrote-more, Wrote-failed, Wrote-room, WrotePart-prefix, WrotePart-whole, WrotePart-longer, WrotePart-after)
