-- From the longest match of a mode to the token: each law is one clause of the definition, read at a place of a source.
-- Assumes nothing.
use Prim.Native.Nat.{ℕ, zero, suc, ◌+◌, ◌≤◌, ◌<◌}
use Rattle.std.specs.Prelude.{◌≡◌, List, [], ◌∷◌, length, drop, Option, Some, None, MatchOption}
use Rattle.std.proofs.Math.Path.{refl, sym, ap}
use Rattle.std.proofs.Common.{◌∙◌, subst, arith, length-drop}
use Rattle.patterns.specs.Utf8.{decode, whole}
use Rattle.tokens.specs.declared.Hit.{Hit}
use Rattle.tokens.specs.declared.Mode.{Mode}
use Rattle.tokens.specs.declared.Mode.TheVariants.{Normal}
use Rattle.tokens.specs.declared.Choice.{Choice}
use Rattle.tokens.specs.Kinds.{INVALID_UTF8}
use Rattle.tokens.specs.Tokens.{Tables}
use Rattle.tokens.specs.Scan.{best, rules, tried, chosen, unmatched, or_else, choose, token, found, scan_rest, scan}
use Rattle.tokens.proofs.ScanLaws.{scan_found}
use Rattle.places.specs.Signs.{matched}
use Rattle.rules.specs.Choosing.{unknown_of}
use Rattle.rules.proofs.Better.{matched_some, matched_none}

module _ (t : Tables) (s : List ℕ) where
  -- no rule of the modes matches
  pub broken_byte : decode s ≡ None → chosen INVALID_UTF8 1 Normal ≡ choose t [] s
  unfolding choose unmatched
  broken_byte e = rw e

  pub unknown_text : (v n : ℕ) → decode s ≡ whole v n → unknown_of s ≡ choose t [] s
  unfolding choose unmatched
  unknown_text v n e = rw e

  -- a mode's hit is taken, or the next mode is tried
  module _ (m : Mode) (ms : List Mode) {h : Hit} (e : h ≡ best (rules t m) s) where
    pub hit_taken : 1 ≤ h.len → chosen h.kind h.len m ≡ choose t (m ∷ ms) s
    unfolding choose
    hit_taken l = go h.len refl l ∙ ap (λ (g : Hit). or_else m g.kind g.len (choose t ms s)) e
      where
        go : (n : ℕ) → h.len ≡ n → 1 ≤ n → chosen h.kind h.len m ≡ or_else m h.kind h.len (choose t ms s)
        go zero q l = absurd (omega arith)
        go (suc n) q l = rw q

    pub next_tried : h.len ≡ 0 → choose t ms s ≡ choose t (m ∷ ms) s
    unfolding choose
    next_tried z = sym (ap (λ (g : Hit). or_else m g.kind g.len (choose t ms s)) (sym e) ∙ ap (λ (n : ℕ). or_else m h.kind n (choose t ms s)) z)

  -- the same of a hit as the code has it: Q says what is taken where there is none
  module _ (m : Mode) (ms : List Mode) where
    pub hit_or_next : {Q : Type 0} (o : Option Hit) {r : Choice} → o ≡ matched (best (rules t m) s) → MatchOption o Q (λ h. r ≡ chosen h.kind h.len m) → (Q → r ≡ choose t ms s)
        → r ≡ choose t (m ∷ ms) s
    hit_or_next {Q} o {r} e d f = go h.len refl
      where
        h : Hit
        h = best (rules t m) s

        known : (o' : Option Hit) → o' ≡ matched h → MatchOption o' Q (λ h. r ≡ chosen h.kind h.len m)
        known o' q = subst (λ (o : Option Hit). MatchOption o Q (λ h. r ≡ chosen h.kind h.len m)) (e ∙ sym q) d

        go : (n : ℕ) → h.len ≡ n → r ≡ choose t (m ∷ ms) s
        go zero q = f (known None (matched_none h (omega arith))) ∙ next_tried m ms refl q
        go (suc n) q = known (Some h) (matched_some h (omega arith)) ∙ hit_taken m ms refl (omega arith)

-- the token at a place
rest_found : (t : Tables) (m : Mode) (at : ℕ) (s : List ℕ) → 1 ≤ length s → found at (choose t (tried m) s) ≡ scan_rest t m at s
unfolding scan_rest
rest_found t m at [] h = absurd (omega arith)
rest_found t m at (b ∷ s) h = refl

pub scan_chosen : (t : Tables) (s : List ℕ) (at : ℕ) (m : Mode) (c : Choice) → at < length s → c ≡ choose t (tried m) (drop at s) → found at c ≡ scan t s at m
unfolding scan
scan_chosen t s at m c h e = ap (found at) e ∙ rest_found t m at (drop at s) (omega (arith, length-drop at s))

-- and it ends within the source
pub choice_within : (t : Tables) (s : List ℕ) (at : ℕ) (m : Mode) (c : Choice) → at < length s → c ≡ choose t (tried m) (drop at s) → at + c.len ≤ length s
choice_within t s at m c h e = (scan_found t s at m (token c.kind at (at + c.len)) c.mode (sym (scan_chosen t s at m c h e))).within
