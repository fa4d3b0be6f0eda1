-- The Begins that no End closes, by a walk over the events with a stack of positions: a Begin stands at each of them, events that balance
-- change none of them, and only tags count. By induction on the events. Assumes nothing.
use Rattle.std.specs.Prelude.{ℕ, zero, suc, ◌+◌, ◌-◌, ◌≤◌, ◌<◌, ◌≡◌, refl, true, false, cond, not, List, [], ◌∷◌, ◌++◌, length, get_or, set, take, drop, eqb}
use Rattle.std.proofs.Common.{sym, ap, ◌∙◌, append-nil, add-zero, add-one, arith, length-append, length-take, take-append-drop, take-take, take-suc, length-take-le, eqb-true}
use Rattle.std.proofs.Math.ListN.{get_or-append}
use Rattle.std.proofs.Math.Seq.{take-length, take-append_seam, append_snoc, get_or-append_seam}
use Rattle.std.proofs.lemmas.List.{take-append-le}
use Rattle.std.proofs.lemmas.Bool.{eqb-false, not-true}
use Rattle.patterns.proofs.Bools.{and_first, and_second, by_test}
use Rattle.patterns.specs.Lists.{All}
use Rattle.patterns.proofs.Lists.{all_append, all_weaker, all_take, all_get, empty}
use Rattle.event_record.specs.declared.Event.{Event}
use Rattle.event_record.specs.Record.{begin_tag, end_tag, span, event_of, unmatched, depth, balanced}

-- The positions of the open Begins, the innermost last, from before an event at position i to behind it. An End where nothing is open
-- leaves nothing open: popped Begins may have left their Ends behind.
abbrev pub all_but_last : List ℕ → List ℕ
all_but_last ps = take (length ps - 1) ps

abbrev pub nest : ℕ → List ℕ → Event → List ℕ
nest i ps y = cond (eqb y.tag begin_tag) (ps ++ (i ∷ [])) (cond (eqb y.tag end_tag) (all_but_last ps) ps)

unfoldable pub nested : ℕ → List ℕ → List Event → List ℕ
nested i ps [] = ps
nested i ps (y ∷ ys) = nested (i + 1) (nest i ps y) ys

abbrev pub unclosed : List Event → List ℕ
unclosed es = nested 0 [] es

-- A Begin stands at the position p.
abbrev pub BeginAt : List Event → ℕ → Type 0
BeginAt es p = (p < length es) × ((get_or es p (event_of 0 0 (span 0 0))).tag ≡ begin_tag)
