-- Spellings and their kinds as the code lists them. They are read in order, and the first that is the word decides (found).
-- Assumes nothing.
use Rattle.std.specs.Prelude.{ℕ, ◌≡◌, refl, List, [], ◌∷◌, map, eqb, cond, ◌&&◌, Option, Some, None, Bool, true, false}
use Rattle.std.specs.List.{find}
use Rattle.std.specs.Str.{bytes_eq}
use Rattle.std.proofs.Common.{ap}
use denote.Ref.{Bor}
use Rattle.tokens.specs.Kinds.{IDENT}
use Rattle.tokens.specs.Tokens.{Spelling}
use Rattle.words.specs.Keywords.{same, keyword_of}

-- a spelling as the code has it: its bytes and its kind
abbrev pub Entry : Type 0
Entry = Bor (List ℕ) × ℕ

abbrev pub spelling : Entry → Spelling
spelling x = record { kind = x.1; bytes = x.0.now }

-- `==` on slices is `same`
pub same_is : (w t : List ℕ) → same w t ≡ bytes_eq w t
unfolding same
same_is [] [] = refl
same_is [] (y ∷ t) = refl
same_is (x ∷ w) [] = refl
same_is (x ∷ w) (y ∷ t) = ap (λ (b : Bool). eqb x y && b) (same_is w t)

-- the kind of what a search came to
abbrev pub kind_of : Option Entry → ℕ
kind_of None = IDENT
kind_of (Some x) = x.1

pub found : (xs : List Entry) (w : List ℕ) → kind_of (find (λ x. bytes_eq w x.0.now) xs) ≡ keyword_of (map spelling xs) w
unfolding keyword_of
found [] w = refl
found (x ∷ xs) w = rw (same_is w x.0.now) (go (bytes_eq w x.0.now) (found xs w))
  where
    go : (b : Bool) → kind_of (find (λ x. bytes_eq w x.0.now) xs) ≡ keyword_of (map spelling xs) w
        → kind_of (cond b (Some x) (find (λ x. bytes_eq w x.0.now) xs)) ≡ cond b x.1 (keyword_of (map spelling xs) w)
    go true e = refl
    go false e = e
