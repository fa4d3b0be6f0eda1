-- One spelling before the others: the word is that spelling, or the others decide. Each law is a clause of `keyword_of`.
-- Assumes nothing.
use Rattle.std.specs.Prelude.{ℕ, ◌≡◌, refl, Bool, true, false, cond, List, [], ◌∷◌}
use Rattle.std.proofs.Common.{sym, ap, ◌∙◌}
use Rattle.tokens.specs.Kinds.{IDENT}
use Rattle.tokens.specs.Tokens.{Spelling}
use Rattle.words.specs.Keywords.{same, keyword_of}

-- k is the kind of w among the spellings
pub record Decided (xs : List Spelling) (w : List ℕ) (k : ℕ) : Type 0 where
  pub kind : k ≡ keyword_of xs w

pub none : {w : List ℕ} → Decided [] w IDENT
unfolding keyword_of
none = record { kind = refl }

pub before : {x : Spelling} {xs : List Spelling} {w : List ℕ} {k other : ℕ} → k ≡ cond (same w x.bytes) x.kind other → Decided xs w other → Decided (x ∷ xs) w k
unfolding keyword_of
before {x} {xs} {w} e d = record { kind = e ∙ ap (cond (same w x.bytes) x.kind) d.kind }

pub decided : (xs : List Spelling) {w : List ℕ} {k : ℕ} → Decided xs w k → k ≡ keyword_of xs w
decided xs d = d.kind

-- a test that is carried out
module _ (k other : ℕ) {s t : Bool} (e : t ≡ s) where
  pub this : t ≡ true → k ≡ cond s k other
  this h = rw (sym e ∙ h)

  pub that : t ≡ false → other ≡ cond s k other
  that h = rw (sym e ∙ h)
