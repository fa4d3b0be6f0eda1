-- The numbers stand in the place of as many.
-- Assumes nothing.
use Rattle.std.proofs.Common.{◌≡◌, ◌+◌, ◌-◌, List, length, take, drop, ◌++◌, ap, ◌∙◌, sym, ℕ, arith, append_assoc, drop-drop}
use Rattle.std.proofs.lemmas.List.Edits.{sets-eq}
use Rattle.event_scripts.proofs.put.Goals as goal

pub returns : goal.returns
returns c =
    let a = c.args in
    let now = a.answers.now in
    let n : length a.told ≡ 5 = omega arith in
    let e : a.at + (a.at + 5 - a.at) ≡ a.at + length a.told = omega arith in
    rw c.copy_from_slice.ensures.after
    (ap (λ (l : List ℕ). take a.at now ++ (a.told ++ l)) (drop-drop (a.at + 5 - a.at) a.at now ∙ ap (λ (k : ℕ). drop k now) e)
    ∙ sym (rw append_assoc at (sets-eq a.told now a.at (omega arith))))
