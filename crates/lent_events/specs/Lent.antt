-- The record of a stream behind a reference: it is copied out, and another is stored. While the borrow is open the code owns the record's
-- cell; it is closed at the record that was stored, which is then the one that the lender reads. Assumes nothing.
use Rattle.std.specs.Prelude.{ℕ, List, [], ◌∷◌}
use seplogic.Ra.Ura.{Ura}
use base.Fraction.{full_share}
use mir.Syntax.{Ty, named, mut, ty_ref}
use mir.Val.{Val, vptr}
use base.Fml.{Lft, Share, GName, Fml, flft, fobs, fauth, fbor, fobor}
use types.Kit.{Item, ‵}
use types.SemTy.{Body as Lies}
use denote.Memory.{mem, pointee, cell_at}
use denote.Ref.{MutBor, MutRef}
use Rattle.events.specs.declared.Stream.{Stream}
use Rattle.events.specs.contracts.Stream as T
use Rattle.lent_events.specs.Answers.{stream_val}

-- a reference to a record: its lifetime and the share of it that is held, where the record lies, and the name of its last value
pub record Lent : Type 0 where
  pub lft : Lft
  pub share : Share
  pub block : ℕ
  pub offset : ℕ
  pub name : GName

-- the reference's type and machine value, what it is to a contract, what it owns, and the token of its lifetime
abbrev pub ref_ty : Ty
ref_ty = ty_ref (named 0) mut (pointee (T.the_row).written)

abbrev pub ref_val : Lent → Val
ref_val r = vptr r.block r.offset

abbrev pub lent_out : Lent → Stream → MutBor Stream
lent_out r h = record { ref_ptr = (r.block, r.offset); ghost_name = r.name; now = h }

abbrev pub reference : Lent → Stream → Fml
reference r h = (MutRef (named 0) r.lft T.the_row).own_val (lent_out r h) (ref_val r ∷ [])

abbrev pub token : Lent → Fml
token r = flft r.lft r.share

-- that h is the record's last value
abbrev pub last_value : Lent → Stream → Fml
last_value r h = fobs r.name ((T.the_row).coded.code h)

module _ {M : Type 1} {𝓤 : Ura M} where
  -- the borrow open, with the record h in its cell: five entries
  abbrev pub opened : Lent → Stream → List (Item 𝓤) → List (Item 𝓤)
  opened r h Γ =
      ‵ (cell_at full_share (T.the_row).mir (stream_val h ∷ []) r.block r.offset) ∷ ‵ ((T.the_row).own_val h (stream_val h ∷ [])) ∷ ‵ (fobor r.lft r.share (Lies (mem T.the_row) r.block r.offset r.name)) ∷ ‵ (last_value r h) ∷ ‵ (fauth r.name ((T.the_row).coded.code h)) ∷ Γ

  -- the borrow closed at the record h: three entries
  abbrev pub closed : Lent → Stream → List (Item 𝓤) → List (Item 𝓤)
  closed r h Γ = ‵ (last_value r h) ∷ ‵ (fbor r.lft (Lies (mem T.the_row) r.block r.offset r.name)) ∷ ‵ (token r) ∷ Γ
