-- The record of a stream behind a reference: it is copied out, and another is stored. While the borrow is open the code owns the record's
-- cell; it is closed at the record that was stored, which is then the one that the lender reads. Assumes nothing.
use Rattle.std.specs.Prelude.{◌≡◌, refl, ℕ, List, [], ◌∷◌, get_or}
use seplogic.Ra.Ura.{Ura}
use base.Fraction.{full_share}
use mir.Syntax.{Ty, Body, place, field, deref, copy, rv_opd, assign, seq}
use mir.Val.{Val}
use prog.Wp.{Env, no_local, Calls, Loops}
use types.Logic.{Logic}
use types.Kit.{Item, ‵, Post, runs, lands, Seq, ◌$◌, !, move, drop, rewrite, fsplit3}
use types.Run.{look, look_raw, init, store_raw, stop, hop, fld, from, load, of_opd, assigns, land}
use types.Part.{whole, sub, look_in}
use denote.Laws.{Is, shows}
use denote.Steps.{opens, closes, owned, peeks}
use denote.Struct.Steps.{spelt}
use denote.Struct.Laws as LL
use Rattle.walks.specs.Steps.{cell, room, script, goes_on}
use Rattle.walks.proofs.Steps.{at_local}
use Rattle.events.specs.declared.Stream.{Stream}
use Rattle.events.specs.contracts.Stream as T
use Rattle.events.proofs.Stream.TheLaws as T'
use Rattle.lent_events.specs.Answers.{Answers, stream_val, given_ty, given_val}
use Rattle.lent_events.specs.Lent.{Lent, closed, opened, ref_ty, ref_val, reference, token}

module _ {M : Type 1} {𝓤 : Ura M} {𝓛 : Logic 𝓤} {K : Type 0} {Γ : List (Item 𝓤)} {C : Calls 𝓤 𝓛.H} {Λ : Loops 𝓤 𝓛.H} {E : Env 𝓤 𝓛.H} {Q : Post 𝓤 𝓛.H} {rest : Body} {l l₀ l₁ : ℕ} where
  -- `let before = *stream;`, before being local c
  open 𝓛 use {H}

  pub copied : K → {τ : Ty} (r : Lent) (h : Stream) (c : ℕ) → get_or ((τ, l₀) ∷ (ref_ty, l₁) ∷ E) c (no_local 𝓤 H) ≡ (T'.mir, l)
      → (Is T.the_row h (stream_val h ∷ []) → Seq K 𝓛 (opened r h (cell ref_ty l₁ (ref_val r) ∷ cell T'.mir l (stream_val h) ∷ Γ)) (runs C Λ ((τ, l₀) ∷ (ref_ty, l₁) ∷ E) rest Q))
      → Seq K 𝓛 (‵ (reference r h) ∷ ‵ (token r) ∷ cell ref_ty l₁ (ref_val r) ∷ room T'.mir l ∷ Γ) (runs C Λ ((τ, l₀) ∷ (ref_ty, l₁) ∷ E) (seq (assign (place c []) (rv_opd (copy (place 1 (deref T'.mir ∷ []))))) rest) Q)
  copied t r h c e k =
      script (fsplit3 ! $ drop ! $ opens ! tt T.the_row {h = h} r.block r.offset (λ vs. spelt ! T.the_row (Is T.the_row) (shows 𝓛 T.the_row) (LL.vals T.the_type T'.the_laws) (LL.tells T.the_type T'.the_laws) full_share h vs r.block r.offset $
      move ! (1 ∷ []) $ peeks ! T.the_row (Is T.the_row) (shows 𝓛 T.the_row) h (stream_val h ∷ []) (λ g. move ! (1 ∷ 0 ∷ []) $
      assigns ! (of_opd ! (load ! (from ! (hop ! (look ! 5 refl) (stop !))) (look_raw ! 0 refl))) (at_local ! e (stop !)) (init ! 6 refl ((LL.lawful T.the_type T'.the_laws 𝓛).typed h _ g).0) $ goes_on (k g))))

  -- the covered call has returned w, which is given; `*stream = given.stream;`, by way of local b, and the answer is `given.answer`, given
  -- being local g
  pub stored : K → {lz : ℕ} (F : Answers) (r : Lent) (h : Stream) (x : F.given.Denot) (w : Val) (g b : ℕ) → get_or ((F.ty, l₀) ∷ (ref_ty, l₁) ∷ E) g (no_local 𝓤 H) ≡ (given_ty F, l) → get_or ((F.ty, l₀) ∷ (ref_ty, l₁) ∷ E) b (no_local 𝓤 H) ≡ (T'.mir, lz)
      → (Is F.given x (w ∷ []) → Seq K 𝓛 (closed r (F.stream_of x) (cell F.ty l₀ (F.val (F.answer_of x)) ∷ cell ref_ty l₁ (ref_val r) ∷ cell (given_ty F) l (given_val F x) ∷ cell T'.mir lz (stream_val (F.stream_of x)) ∷ Γ)) (runs C Λ ((F.ty, l₀) ∷ (ref_ty, l₁) ∷ E) rest Q))
      → Seq K 𝓛 (‵ (F.given.own_val x (w ∷ [])) ∷ opened r h (room F.ty l₀ ∷ cell ref_ty l₁ (ref_val r) ∷ room (given_ty F) l ∷ room T'.mir lz ∷ Γ))
      (lands C Λ ((F.ty, l₀) ∷ (ref_ty, l₁) ∷ E) (place g []) w (seq (assign (place b []) (rv_opd (copy (place g (field 0 ∷ []))))) (seq (assign (place 1 (deref T'.mir ∷ [])) (rv_opd (copy (place b [])))) (seq (assign (place 0 []) (rv_opd (copy (place g (field 1 ∷ []))))) rest))) Q)
  stored t {lz} F r h x w g b e e2 k =
      script (peeks ! F.given (Is F.given) (shows 𝓛 F.given) x (w ∷ []) (λ is. let holds = F.holds x w is in
      land ! (at_local ! e (stop !)) (init ! 8 refl (F.given_typed 𝓛 x w is)) $ rewrite ! 8 (λ (u : Val). cell (given_ty F) l u) (F.tells x w is) refl $
      assigns ! (of_opd ! (load ! (at_local ! e (fld ! refl (stop !))) (look_in ! 8 (sub ! 0 refl (whole !))))) (at_local ! e2 (stop !)) (init ! 9 refl ((LL.lawful T.the_type T'.the_laws 𝓛).typed (F.stream_of x) _ holds.1).0) $
      assigns ! (of_opd ! (load ! (at_local ! e2 (stop !)) (look ! 9 refl))) (from ! (hop ! (look ! 7 refl) (stop !))) (store_raw ! 1 refl ((LL.lawful T.the_type T'.the_laws 𝓛).typed (F.stream_of x) _ holds.1).0) $
      assigns ! (of_opd ! (load ! (at_local ! e (fld ! refl (stop !))) (look_in ! 8 (sub ! 1 refl (whole !))))) (from ! (stop !)) (init ! 6 refl (F.answer_typed 𝓛 (F.answer_of x) holds.0)) $
      drop ! $ move ! (1 ∷ []) $ drop ! $ owned ! T.the_row (Is T.the_row) (LL.makes T.the_type T'.the_plain 𝓛) (F.stream_of x) _ holds.1 $
      move ! (1 ∷ 0 ∷ 2 ∷ 3 ∷ 4 ∷ []) $ closes ! tt T.the_row (F.stream_of x) (stream_val (F.stream_of x) ∷ []) r.block r.offset $ goes_on (k is)))
