-- The next byte's place lies within the text; and what a line asks for, from space to space.
-- By the laws of runs, and one look at the front of the rest. Assumes nothing.
use Prim.Native.Nat.{ℕ, suc, ◌+◌, ◌≤◌, ◌<◌}
use Rattle.std.specs.Prelude.{◌≡◌, refl, Bool, true, false, not, List, length, get_or, eqb, leb}
use Rattle.std.proofs.Math.Path.{ap, sym}
use Rattle.std.proofs.Common.{◌∙◌, true≢false, arith, drop-drop, leb-true, leb-false}
use Rattle.std.proofs.Math.ListN.{drop}
use Rattle.patterns.proofs.Bools.{by_test}
use Rattle.patterns.specs.Walk.{span}
use Rattle.patterns.proofs.Walk.{span_within, span_stops, span_over}
use Rattle.lines.specs.Decimals.{space, number, behind, value_or_zero}
use Rattle.lines.specs.DecimalLaws.{behind_value}
use Rattle.lines.specs.declared.Asked.{Asked}
use Rattle.lines.specs.Lines.{other_than, next_byte, behind_space, asked}

-- for any r that is the next byte's place
pub next_within : (text : List ℕ) (from b : ℕ) {r : ℕ} → r ≡ next_byte text from b → from ≤ length text → r ≤ length text
next_within text from b e h = span_within (other_than b) text from e h

-- the same one place on, where the text may be over
pub next_behind : (text : List ℕ) (at b : ℕ) {r : ℕ} → r ≡ next_byte text (at + 1) b → at ≤ length text → r ≤ length text + 1
next_behind text at b e h =
    by_test (leb (at + 1) (length text)) (λ t. omega (arith, next_within text (at + 1) b e (leb-true (at + 1) (length text) t)))
    (λ t. let l : length text ≤ at + 1 = omega (arith, leb-false (at + 1) (length text) t) in omega (arith, e, span_over (other_than b) text (at + 1) l))

-- what stands behind the next space, and the number there
module _ (line : List ℕ) (from : ℕ) {at : ℕ} (e : at ≡ next_byte line from space) where
  run : ℕ
  run = span (other_than space) (drop from line)

  behind_next : drop (at + 1) line ≡ behind_space (drop from line)
  unfolding behind_space run
  behind_next =
      let p : at + 1 ≡ from + suc run = omega (arith, e) in
      ap (λ (k : ℕ). drop k line) p ∙ sym (drop-drop (suc run) from line)

  there : at < length line → eqb (get_or line at 0) space ≡ true
  there h = go (eqb (get_or line at 0) space) (span_stops (other_than space) line from e h)
    where
      go : (t : Bool) → not t ≡ false → t ≡ true
      go true p = refl
      go false p = absurd (true≢false p)

  number_next : {n : ℕ} → n ≡ value_or_zero (behind line at) → n ≡ number 0 (behind_space (drop from line))
  number_next f = f ∙ behind_value line at there ∙ ap (number 0) behind_next

-- what a line asks for, by the places of its first three spaces
pub asked_by : (line : List ℕ) {l p q r x y z : ℕ} → p ≡ next_byte line 0 space → q ≡ next_byte line (p + 1) space
    → r ≡ next_byte line (q + 1) space → l ≡ get_or line 0 0 → x ≡ value_or_zero (behind line p) → y ≡ value_or_zero (behind line q) → z ≡ value_or_zero (behind line r)
    → ◌≡◌ {A = Asked} (record { letter = l; first = x; second = y; third = z }) (asked line)
unfolding asked
asked_by line {p = p} {q = q} e f g el ex ey ez =
    let first : drop (p + 1) line ≡ behind_space line = behind_next line 0 e in
    let second : drop (q + 1) line ≡ behind_space (behind_space line) = behind_next line (p + 1) f ∙ ap behind_space first in
    rw (el, number_next line 0 e ex, number_next line (p + 1) f ey, number_next line (q + 1) g ez, first, second)
