-- The cases of rattle_tokens: where a test of the definition holds, it refuses; where none does, what fetching wrote is what is left.
-- Each is one look at the tests. Assumes nothing.
use Rattle.std.specs.Prelude.{ℕ, ◌+◌, ◌<◌, ◌≤◌, ◌≡◌, refl, Bool, cond, zero, suc, Option, Some, None, Result, Ok, Err, ok_or, List, length, get_or, leb}
use Rattle.std.proofs.Common.{sym, subst, arith}
use Rattle.std.proofs.Math.Bool.{true, false}
use Rattle.std.proofs.Math.Nat.{zero-add}
use borrow.Author.Tests.{le-leb, leb-true, leb-false, lt-ltb, le-ltb}
use Rattle.refusals.specs.Calls.{Reply, reply}
use Rattle.scripts.specs.Tables.{below}
use Rattle.scripts.proofs.Tables.{no_entry}
use Rattle.tokens.specs.NoneOf.{NoneOf}
use Rattle.tokens.specs.declared.Mode.{Mode}
use Rattle.tokens.specs.declared.Token.{Token}
use Rattle.tokens.specs.declared.Mode.TheVariants.{Normal, HexPattern, HexJump}
use Rattle.tokens.specs.declared.NotAMode.{NotAMode}
use Rattle.tokens.specs.Modes.{mode_of}
use Rattle.tokens.specs.Tokens.{tables_1}
use Rattle.tokens.specs.Scan.{list_from}
use Rattle.reader.specs.declared.Reader.{Reader}
use Rattle.reader.specs.Reading.{source_limit, ahead}
use Rattle.token_room.specs.Room.{slots_in, nth, write_all}
use Rattle.refusals.specs.declared.Refusal.{Refusal}
use Rattle.fetching.specs.declared.Stored.{Stored}
use Rattle.fetching.specs.Fetching.{Answer, upto, refused, fetched, fetched_told, outcome}
use Rattle.c_functions.specs.Answers.{Lent, lent}
use Rattle.c_functions.specs.TokensAt.{tokens_from, in_modes, tokens_at}

-- The tokens from a place on, in a mode.
module _ (src : List ℕ) (place : ℕ) (mode : Mode) (out : List ℕ) (count : ℕ) where
  pub from_past : length src < place → reply 24 (lent out count) ≡ tokens_from src place mode out count
  unfolding tokens_from
  from_past h = rw (lt-ltb (length src) place h)

  module _ (limit : length src ≤ source_limit) where
    abbrev reader : Reader
    reader = record { place = record { 0 = place }; mode = mode }

    abbrev all : List Token
    all = (list_from tables_1 src place mode).tokens

    -- what fetching all of them answers and leaves, by whether there are slots for them
    abbrev fetched_if : Bool → Reply Answer (List ℕ)
    fetched_if t =
        cond t (reply (upto (ahead (length src) src reader).reader (nth (0 + length all))) (write_all out 0 all)) (reply (refused 2) out)

    -- what it says of rattle_tokens
    abbrev pub Leaves : Answer → List ℕ → Type 0
    Leaves (upto r next) o = reply 0 (lent o next.0) ≡ tokens_from src place mode out count
    Leaves (refused n) o = reply 15 (lent o count) ≡ tokens_from src place mode out count

    module _ (inside : place ≤ length src) where
      if_leaves : (t : Bool) → leb (length all) (slots_in (length out)) ≡ t → Leaves (fetched_if t).answer (fetched_if t).after
      unfolding tokens_from
      if_leaves true q =
          rw (
            le-ltb (length src) place inside,
            le-ltb (slots_in (length out)) (length all) (leb-true _ _ q),
            zero-add (length all),
          )
      if_leaves false q =
          rw (le-ltb (length src) place inside, lt-ltb (slots_in (length out)) (length all) (leb-false _ _ q))

      fetched_so : fetched src reader out (nth 0) (length src) (slots_in (length out)) ≡ fetched_if (leb (length all) (slots_in (length out)))
      unfolding fetched ahead list_from
      fetched_so = rw (le-leb (length src) source_limit limit, le-leb place (length src) inside, le-leb 0 place (omega arith))

      pub from_fetched : (y : Result Stored Refusal) {g : Result Stored Refusal} {o : List ℕ} {w : ℕ} → g ≡ y → w ≡ slots_in (length out)
          → outcome g o ≡ fetched src reader out (nth 0) (length src) w → Leaves (fetched_told y) o
      from_fetched y {g} {o} told slots e =
          let f : outcome y o ≡ fetched_if (leb (length all) (slots_in (length out))) = rw (← told, ← fetched_so, ← slots) e in
          subst (λ (x : Reply Answer (List ℕ)). Leaves x.answer x.after) (sym f) (if_leaves (leb (length all) (slots_in (length out))) refl)

-- A source over the limit; the mode of a number, and a number that is none.
module _ (src : List ℕ) (place n : ℕ) (out : List ℕ) (count : ℕ) where
  abbrev none : Reply ℕ Lent
  none = reply 24 (lent out count)

  pub at_too_long : source_limit < length src → reply 1 (lent out count) ≡ tokens_at src place n out count
  unfolding tokens_at
  at_too_long h = rw (lt-ltb source_limit (length src) h)

  module _ (limit : length src ≤ source_limit) where
    pub at_mode : (k : ℕ) → n ≡ k → tokens_at src place n out count ≡ get_or (in_modes src place out count) k none
    unfolding tokens_at
    at_mode k e = rw (le-ltb source_limit (length src) limit, e)

    pub at_none : NoneOf (below 3) n → tokens_at src place n out count ≡ none
    unfolding tokens_at
    at_none h = rw (le-ltb source_limit (length src) limit) (no_entry (in_modes src place out count) none n h)

-- what the number's conversion answers says which mode it names, if any
pub names : (o : Option Mode) (e : NotAMode) {r : Result Mode NotAMode} {m : Mode} → r ≡ ok_or o e → r ≡ Ok m → o ≡ Some m
names (Some x) e p q = cc
names None e p q = cc

pub names_none : (o : Option Mode) (e : NotAMode) {x : NotAMode} {r : Result Mode NotAMode} → r ≡ ok_or o e → r ≡ Err x → o ≡ None
names_none (Some m) e p q = cc
names_none None e p q = refl

-- The mode that a number names, and a number that names none.
module _ (src : List ℕ) (place : ℕ) (out : List ℕ) (count : ℕ) (limit : length src ≤ source_limit) where
  pub at_named : (n : ℕ) {m : Mode} → mode_of n ≡ Some m → tokens_from src place m out count ≡ tokens_at src place n out count
  at_named zero {m} e = let k : m ≡ Normal = cc in rw k (sym (at_mode src place 0 out count limit 0 refl))
  at_named (suc zero) {m} e = let k : m ≡ HexPattern = cc in rw k (sym (at_mode src place 1 out count limit 1 refl))
  at_named (suc (suc zero)) {m} e = let k : m ≡ HexJump = cc in rw k (sym (at_mode src place 2 out count limit 2 refl))
  at_named (suc (suc (suc n))) e = cc

  pub at_unnamed : (n : ℕ) → mode_of n ≡ None → reply 24 (lent out count) ≡ tokens_at src place n out count
  unfolding tokens_at
  at_unnamed zero e = cc
  at_unnamed (suc zero) e = cc
  at_unnamed (suc (suc zero)) e = cc
  at_unnamed (suc (suc (suc n))) e = rw (le-ltb source_limit (length src) limit) refl
