-- The Begins that no End closes, by a walk over the events with a stack of positions: a Begin stands at each of them, events that balance
-- change none of them, and only tags count. By induction on the events. Assumes nothing.
use Rattle.std.specs.Prelude.{ℕ, zero, suc, ◌+◌, ◌-◌, ◌≤◌, ◌<◌, ◌≡◌, refl, true, false, cond, not, List, [], ◌∷◌, ◌++◌, length, get_or, set, take, drop, eqb}
use Rattle.std.proofs.Common.{sym, ap, ◌∙◌, append-nil, add-zero, add-one, arith, length-append, length-take, take-append-drop, take-take, take-suc, length-take-le, eqb-true}
use Rattle.std.proofs.Math.ListN.{get_or-append}
use Rattle.std.proofs.Math.Seq.{take-length, take-append_seam, append_snoc, get_or-append_seam}
use Rattle.std.proofs.lemmas.List.{take-append-le}
use Rattle.std.proofs.lemmas.Bool.{eqb-false, not-true}
use Rattle.patterns.proofs.Bools.{and_first, and_second, by_test}
use Rattle.patterns.specs.Lists.{All}
use Rattle.patterns.proofs.Lists.{all_append, all_weaker, all_take, all_get, empty}
use Rattle.event_record.specs.declared.Event.{Event}
use Rattle.event_record.specs.Record.{begin_tag, end_tag, span, event_of, unmatched, depth, balanced}
use Rattle.event_record.specs.Unclosed.{BeginAt, all_but_last, nest, nested, unclosed}

pub nested_append : (i : ℕ) (ps : List ℕ) (xs ys : List Event) → nested i ps (xs ++ ys) ≡ nested (i + length xs) (nested i ps xs) ys
unfolding nested
nested_append i ps [] ys = rw add-zero
nested_append i ps (x ∷ xs) ys =
    let e : i + suc (length xs) ≡ i + 1 + length xs = omega arith in
    rw e (nested_append (i + 1) (nest i ps x) xs ys)

-- where fewer nodes are open before some events, no more are open behind them
nest_fewer : (i j : ℕ) (ps qs : List ℕ) (y : Event) → length ps ≤ length qs → length (nest i ps y) ≤ length (nest j qs y)
nest_fewer i j ps qs y h =
    by_test (eqb y.tag begin_tag) (λ b. rw b (omega (arith, length-append ps (i ∷ []), length-append qs (j ∷ []))))
    (λ b. by_test (eqb y.tag end_tag)
    (λ e. rw (b, e) (omega (arith, length-take (length ps - 1) ps, length-take (length qs - 1) qs))) (λ e. rw (b, e) h))

pub nested_fewer : (i j : ℕ) (ps qs : List ℕ) (ys : List Event) → length ps ≤ length qs → length (nested i ps ys) ≤ length (nested j qs ys)
unfolding nested
nested_fewer i j ps qs [] h = h
nested_fewer i j ps qs (y ∷ ys) h = nested_fewer (i + 1) (j + 1) (nest i ps y) (nest j qs y) ys (nest_fewer i j ps qs y h)

-- so where all is closed, the first event can go
pub unclosed_rest : (y : Event) (ys : List Event) → unclosed (y ∷ ys) ≡ [] → unclosed ys ≡ []
unfolding nested
unclosed_rest y ys e =
    empty (unclosed ys) (omega (arith, nested_fewer 0 1 [] (nest 0 [] y) ys (omega arith), ap length e))

-- a matched event: the nodes around the n innermost, which are yet to be closed, stay
module _ (n i : ℕ) (ps : List ℕ) (y : Event) (h : n ≤ length ps) (m : unmatched n y ≡ false) where
  matched : (depth n y ≤ length (nest i ps y)) × (take (length (nest i ps y) - depth n y) (nest i ps y) ≡ take (length ps - n) ps)
  matched =
      by_test (eqb y.tag begin_tag)
      (λ b. rw (b, length-append)
      (let k : length ps + 1 - (n + 1) ≡ length ps - n = omega arith in
      (omega arith, rw k (take-append-le (length ps - n) ps (i ∷ []) (omega arith)))))
      (λ b. by_test (eqb y.tag end_tag)
      (λ e. let g : ¬ (n ≡ 0) = eqb-false n 0 (rw e at m) in
      let l : length (all_but_last ps) ≡ length ps - 1 = length-take-le (length ps - 1) ps (omega arith) in
      let k : length ps - 1 - (n - 1) ≡ length ps - n = omega arith in
      rw (b, e, l, k) (omega arith, take-take (length ps - n) (length ps - 1) ps (omega arith)))
      (λ e. rw (b, e) (h, refl)))

-- events that balance close the n innermost nodes, and no others
pub balanced_nested : (n i : ℕ) (ps : List ℕ) (ys : List Event) → n ≤ length ps → balanced n ys ≡ true → nested i ps ys ≡ take (length ps - n) ps
unfolding nested balanced
balanced_nested n i ps [] h e =
    let z : n ≡ 0 = eqb-true n 0 e in
    let k : length ps - n ≡ length ps = omega arith in
    rw k (sym (take-length ps))
balanced_nested n i ps (y ∷ ys) h e =
    let m : unmatched n y ≡ false = not-true (unmatched n y) (and_first (not (unmatched n y)) (balanced (depth n y) ys) e) in
    let k = matched n i ps y h m in
    balanced_nested (depth n y) (i + 1) (nest i ps y) ys k.0 (and_second (not (unmatched n y)) (balanced (depth n y) ys) e) ∙ k.1

-- so a balanced end can be cut off
pub unclosed_cut : (p : ℕ) (es : List Event) → balanced 0 (drop p es) ≡ true → unclosed (take p es) ≡ unclosed es
unclosed_cut p es e =
    let xs = take p es in
    let k : length (unclosed xs) - 0 ≡ length (unclosed xs) = omega arith in
    sym (ap unclosed (sym (take-append-drop p es)) ∙ nested_append 0 [] xs (drop p es)
    ∙ balanced_nested 0 (0 + length xs) (unclosed xs) (drop p es) (omega arith) e ∙ rw k (take-length (unclosed xs)))

-- only tags count
pub nested_set : (i : ℕ) (ps : List ℕ) (es : List Event) (p : ℕ) (y d : Event) → y.tag ≡ (get_or es p d).tag → nested i ps (set es p y) ≡ nested i ps es
unfolding nested
nested_set i ps [] p y d e = refl
nested_set i ps (x ∷ es) zero y d e = rw e
nested_set i ps (x ∷ es) (suc p) y d e = nested_set (i + 1) (nest i ps x) es p y d e

-- An event more: a Begin opens a node, an End closes the innermost, any other leaves them.
pub unclosed_more : (es : List Event) (y : Event) → unclosed (es ++ (y ∷ [])) ≡ nest (length es) (unclosed es) y
unfolding nested
unclosed_more es y = let e : 0 + length es ≡ length es = omega arith in nested_append 0 [] es (y ∷ []) ∙ rw e

begin_append : (xs ys : List Event) (p : ℕ) → BeginAt xs p → BeginAt (xs ++ ys) p
begin_append xs ys p b = (omega (arith, length-append xs ys, b.0), rw (get_or-append xs ys (event_of 0 0 (span 0 0)) p b.0) b.1)

begin_last : (xs : List Event) (y : Event) → y.tag ≡ begin_tag → BeginAt (xs ++ (y ∷ [])) (length xs)
begin_last xs y e = (omega (arith, length-append xs (y ∷ [])), rw (get_or-append_seam xs y []) e)

nest_begins : (xs : List Event) (ps : List ℕ) (y : Event) → All (BeginAt xs) ps → All (BeginAt (xs ++ (y ∷ []))) (nest (length xs) ps y)
nest_begins xs ps y a =
    let zs = xs ++ (y ∷ []) in
    let w : All (BeginAt zs) ps = all_weaker (BeginAt xs) (BeginAt zs) (λ p. begin_append xs (y ∷ []) p) ps a in
    by_test (eqb y.tag begin_tag)
    (λ b. rw b ((all_append (BeginAt zs) ps (length xs ∷ [])).1 (w, (begin_last xs y (eqb-true y.tag begin_tag b), tt))))
    (λ b. by_test (eqb y.tag end_tag) (λ e. rw (b, e) (all_take (BeginAt zs) (length ps - 1) ps w)) (λ e. rw (b, e) w))

nested_begins : (xs : List Event) (ps : List ℕ) (ys : List Event) → All (BeginAt xs) ps → All (BeginAt (xs ++ ys)) (nested (length xs) ps ys)
unfolding nested
nested_begins xs ps [] a = rw append-nil a
nested_begins xs ps (y ∷ ys) a =
    let e : length (xs ++ (y ∷ [])) ≡ length xs + 1 = length-append xs (y ∷ []) in
    rw (append_snoc, e) at (nested_begins (xs ++ (y ∷ [])) (nest (length xs) ps y) ys (nest_begins xs ps y a))

-- Begins stand where nodes are open
pub unclosed_begins : (es : List Event) → All (BeginAt es) (unclosed es)
unclosed_begins es = nested_begins [] [] es tt

pub innermost_begins : (es : List Event) → 0 < length (unclosed es) → BeginAt es (get_or (unclosed es) (length (unclosed es) - 1) 0)
innermost_begins es h = all_get (BeginAt es) (unclosed es) (length (unclosed es) - 1) 0 (omega arith) (unclosed_begins es)

-- a Begin that is the last event can go, and with it its node
pub unclosed_dropped : (es : List Event) (p : ℕ) → BeginAt es p → p + 1 ≡ length es → unclosed (take p es) ≡ all_but_last (unclosed es)
unclosed_dropped es p b e =
    let xs = take p es in
    let d = event_of 0 0 (span 0 0) in
    let y = get_or es p d in
    let s : es ≡ xs ++ (y ∷ []) = sym (take-length es) ∙ ap (λ (n : ℕ). take n es) (sym e) ∙ rw add-one (take-suc es p d b.0) in
    let o : unclosed es ≡ unclosed xs ++ (length xs ∷ []) = ap unclosed s ∙ unclosed_more xs y ∙ rw b.1 in
    let l : length (unclosed xs) + 1 - 1 ≡ length (unclosed xs) = omega arith in
    rw (o, length-append, l) (sym (take-append_seam (unclosed xs) (length xs ∷ [])))
