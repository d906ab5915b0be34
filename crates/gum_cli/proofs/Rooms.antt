-- The sinks of the program and of the tests have room for what is written to them.
use Rattle.std.specs.Prelude.{◌≡◌, ℕ, ◌≤◌, List, [], ◌∷◌, map, length, Option, Some, None, String, string_bytes, codes, refl}
use Rattle.std.specs.declared.alloc.Global.{Global}
use Rattle.std.proofs.Common.{arith, ap, subst, sym, ◌∙◌}
use Rattle.std.specs.Fmt.{digits}
use Rattle.row_text.specs.Reading.{row_read}
use Rattle.value_cache.specs.Evaluations.{evaluation_of}
use Rattle.script_lines.specs.Blocks.{opens_block, ends_block}
use Rattle.script_lines.specs.Commands.{line_read}
use Rattle.gum_cli.specs.Script.{out}
use Rattle.byte_io.specs.Sink.{HasRoom}
use Rattle.program_words.specs.declared.asked.Asked.{Asked}
use Rattle.program_words.specs.declared.asked.Asked.TheVariants.{Run, Make}
use Rattle.program_words.specs.Words.{asked_of}
use Rattle.script_maker.specs.Scripts.{rounds, script}
use Rattle.gum_cli.specs.Run.{asked, RoomForReplies, RoomForAsked}

-- a sink without bound has room for all
pub no_bound : (o : Option Asked) (left : Option (List ℕ)) → RoomForAsked o None left
no_bound None left = tt
no_bound (Some Run) left = tt
no_bound (Some (Make rows start)) left = tt

-- ---- at the word `run`

reply_to_query : out (codes "value X\n") ≡ codes "refused no_such_result X\n"
unfolding digits opens_block ends_block line_read row_read evaluation_of
reply_to_query = refl

reply_fits : length (out (codes "value X\n")) ≤ 25
reply_fits = omega (arith, ap length reply_to_query)

pub room_for_reply : (room : Option ℕ) (left : Option (List ℕ)) (script : List ℕ) → room ≡ Some 25 → left ≡ Some script → script ≡ codes "value X\n"
    → RoomForReplies room left
room_for_reply room left script r l s =
    subst (λ room. RoomForReplies room left) (sym r)
    (subst (λ left. RoomForReplies (Some 25) left) (sym (l ∙ ap Some s)) reply_fits)

pub room_to_run : (words : List (String Global)) (room : Option ℕ) (left : Option (List ℕ))
    → map string_bytes words ≡ codes "gumtree" ∷ codes "run" ∷ [] → RoomForReplies room left → RoomForAsked (asked words) room left
room_to_run words room left e h = subst (λ o. RoomForAsked o room left) (sym (ap asked_of e)) h

-- ---- at the word `make`
script_fits : length (script 2 0) ≤ 813
unfolding digits rounds
script_fits = let e : length (script 2 0) ≡ 813 = refl in omega (arith, e)

pub room_to_make : (words : List (String Global)) (room : Option ℕ) (left : Option (List ℕ))
    → map string_bytes words ≡ codes "gumtree" ∷ codes "make" ∷ codes "--start=0" ∷ codes "--rows=2" ∷ [] → room ≡ Some 813
    → RoomForAsked (asked words) room left
room_to_make words room left e r =
    subst (λ o. RoomForAsked o room left) (sym (ap asked_of e)) (subst (λ room. HasRoom room (length (script 2 0))) (sym r) script_fits)
