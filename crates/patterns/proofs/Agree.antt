-- Two classes that agree on the characters of a text have the same runs there: a run goes on by what is decoded, and a decoded
-- character is never empty, so that the text gets shorter. Assumes nothing.
use Prim.Native.Nat.{ℕ, zero, suc, ◌+◌, ◌≤◌}
use Rattle.std.specs.Prelude.{◌≡◌, Bool, drop, Option, Some, None}
use Rattle.std.proofs.Math.Path.{refl, sym}
use Rattle.std.proofs.Common.{ap, ◌∙◌, arith, drop-drop}
use Rattle.std.proofs.Math.Bool.{true, false}
use mathlib.Core.List.{List, [], ◌∷◌}
use Rattle.std.proofs.Math.ListN.{length, length-drop}
use Rattle.patterns.specs.declared.Char.{Char}
use Rattle.patterns.specs.Utf8.{Class, decode}
use Rattle.patterns.proofs.Utf8Laws.{decoded_size}
use Rattle.patterns.specs.Pattern.{byte, char, seq, star, follow, if_in, walk, longest}
use Rattle.patterns.specs.Walk.{char_then}
use Rattle.patterns.proofs.Walk.{walk_char}
use Rattle.patterns.specs.Agree.{Agree}

module _ (p q : Class) where
  pub agree_drop : (s : List ℕ) (j : ℕ) → Agree p q s → Agree p q (drop j s)
  agree_drop s j a k v n e = a (j + k) v n (ap decode (sym (drop-drop k j s)) ∙ e)

  run_agree : (turns : ℕ) (s : List ℕ) → length s ≤ turns → Agree p q s → (k b : ℕ) → walk (star (char p)) s k b ≡ walk (star (char q)) s k b
  unfolding walk char_then
  run_agree zero [] h a k b = refl
  run_agree zero (x ∷ s) h a k b = absurd (omega arith)
  run_agree (suc turns) s h a k b =
      walk_char p (star (char p)) (star (char p)) s k b refl ∙ go (decode s) refl (λ n l. run_agree turns (drop n s) l (agree_drop s n a) (k + n) k)
      ∙ sym (walk_char q (star (char q)) (star (char q)) s k b refl)
    where
      go : (d : Option Char) → decode s ≡ d → ((n : ℕ) → length (drop n s) ≤ turns → walk (star (char p)) (drop n s) (k + n) k ≡ walk (star (char q)) (drop n s) (k + n) k)
          → char_then p (star (char p)) d s k k ≡ char_then q (star (char q)) d s k k
      go None e f = refl
      go (Some c) e f =
          let z = decoded_size s c.value c.len e in
          let g : walk (star (char p)) (drop c.len s) (k + c.len) k ≡ walk (star (char q)) (drop c.len s) (k + c.len) k = f c.len (omega (arith, length-drop c.len s, z.0, z.1)) in
          rw (a 0 c.value c.len e, g)

  -- a byte of the class c, and then a run
  pub longest_agree : (c : Class) (s : List ℕ) → Agree p q s → longest (seq (byte c) (star (char p))) s ≡ longest (seq (byte c) (star (char q))) s
  unfolding walk
  longest_agree c [] a = refl
  longest_agree c (x ∷ s) a = go (c x)
    where
      go : (t : Bool) → walk (follow (if_in t) (star (char p))) s 1 0 ≡ walk (follow (if_in t) (star (char q))) s 1 0
      go true = run_agree (length s) s (omega arith) (agree_drop (x ∷ s) 1 a) 1 0
      go false = refl
