-- From a walk to a contract: the machine values of what is passed are written out, a callee's answer is what its promise says, and what a
-- function returns is what its contract wants. A contract speaks of tokens, result and last values alone, so nothing else is kept.
-- Assumes nothing.
use Rattle.std.proofs.Common.{sym, subst}
use Rattle.std.specs.Prelude.{List, [], ◌∷◌}
use seplogic.Ra.Ura.{Ura}
use mir.Syntax.{Place, Body}
use mir.Val.{Val}
use base.Logic.{SProp, ent, sep, wand, emp, via, comm∗, mono_l, wand_i, apply∗, snd∗, ex_e, id⊢}
use prog.Wp.{Env, Calls, Loops}
use types.Logic.{Logic, sem}
use contract.Monad.{Fun, fact}
use contract.Lifetimes.{Lfts, Shares, AllOutlive}
use types.Kit.{Item, ‵, raw, some, later, ◌⊛◌, Go, Seq, Post, lands, ◌$◌, ◌∵◌, !, qed, move, use0, use1, split, pick, frame, show, await, updating, now as at_once, done}
use denote.RattleType.{flat}
use denote.Laws.{Is, Are, Ises, Spells, valss, Tells, Tellss, shows}
use denote.Signature.{Signature, type_at, types_at}
use denote.Steps.{said, only, facts, heard}
use denote.Triple.Clauses.{Ended, Clauses, Lasts, AtExit, at_exit, lasts, ensured, closing}
use denote.Triple.Entry.{Args, Vals, Res, alive, on_entry}
use denote.Triple.Spec.{Spec, Meets, triple_of}

-- A run meets a contract where it does so with the machine values of the parameters written out and their relations in hand.
pub spelled : {M : Type 1} {𝓤 : Ura M} (𝓛 : Logic 𝓤) (S : Signature) (c : Spec 𝓤 S) (run : Fun 𝓤) (sp : (κs : Lfts S.lifetimes) → Spells (types_at S.params κs)) → ((κs : Lfts S.lifetimes) → Tellss (types_at S.params κs) (Ises (types_at S.params κs)) (sp κs))
    → ((κs : Lfts S.lifetimes) (qs : Shares S.lifetimes) (bounds : AllOutlive S.lifetimes S.outlives κs) (a : Args S κs) (g : (c κs a).ghost)
    → Are (types_at S.params κs) (Ises (types_at S.params κs)) a (valss (types_at S.params κs) (sp κs) a)
    → ent 𝓤 (sep 𝓤 (on_entry 𝓛 S κs qs a (valss (types_at S.params κs) (sp κs) a)) ((c κs a).requires g))
    (run (flat (types_at S.params κs) (valss (types_at S.params κs) (sp κs) a)) ((triple_of 𝓛 S c).post ((κs, qs, bounds, a, valss (types_at S.params κs) (sp κs) a), g))))
    → Meets 𝓛 S run c
spelled {𝓤 = 𝓤} 𝓛 S c run sp tl k y =
    let κs = y.0.0 in
    let R : SProp 𝓤 = (c κs y.0.3).requires y.1 in
    let Q : Vals S κs → SProp 𝓤 = λ us. run (flat (types_at S.params κs) us) ((triple_of 𝓛 S c).post y) in
    via 𝓤 (sep 𝓤 R (wand 𝓤 R (Q y.0.4)))
    (via 𝓤 (sep 𝓤 (wand 𝓤 R (Q y.0.4)) R) (mono_l 𝓤 R (said 𝓛 S κs y.0.1 (sp κs) (tl κs) y.0.3 (λ us. wand 𝓤 R (Q us)) y.0.4 (λ are. wand_i 𝓤 _ R _ (k κs y.0.1 y.0.2 y.0.3 y.1 are)))) (comm∗ 𝓤 (wand 𝓤 R (Q y.0.4)) R))
    (apply∗ 𝓤 R (Q y.0.4))

module _ {M : Type 1} {𝓤 : Ura M} (𝓛 : Logic 𝓤) (T : Ended) (c : Clauses 𝓤 T) (y : (triple_of 𝓛 T.signature (closing 𝓛 T c)).Ghost) where
  -- A call has returned u: that is the machine value of some r, its type and its promise say what is known of r, and the tokens are back.
  open 𝓛 use {H}

  pub answered : (val : Res T.signature y.0.0 → Val) → Tells (type_at T.signature.result y.0.0) (Is (type_at T.signature.result y.0.0)) (λ r. val r ∷ [])
      → (φ : Res T.signature y.0.0 → Type 0) → ((r : Res T.signature y.0.0) (z : AtExit T y.0.0) → ent 𝓤 ((c y.0.0 y.0.3).ensures y.1 r z) (fact 𝓤 (φ r)))
      → {Γ : List (Item 𝓤)} {C : Calls 𝓤 H} {Λ : Loops 𝓤 H} {E : Env 𝓤 H} {to : Place} {then : Body} {q : Post 𝓤 H}
      → ((r : Res T.signature y.0.0) → φ r → Is (type_at T.signature.result y.0.0) r (val r ∷ []) → Seq Go 𝓛 (raw (alive 𝓛 T.signature y.0.0 y.0.1) ∷ Γ) (lands C Λ E to (val r) then q))
      → (u : Val) → Seq Go 𝓛 (raw ((triple_of 𝓛 T.signature (closing 𝓛 T c)).post y u) ∷ Γ) (lands C Λ E to u then q)
  answered val tells φ promise {Γ} {C} {Λ} {E} {to} {then} {q} k u =
      let R = type_at T.signature.result y.0.0 in
      let tokens : Item 𝓤 = raw (alive 𝓛 T.signature y.0.0 y.0.1) in
      use1 𝓛 (later (some (λ (r : Res T.signature y.0.0). (tokens ⊛ ‵ (R.own_val r (u ∷ []))) ⊛ raw (ensured 𝓛 T c y.0.0 y.0.3 y.1 r)))) (id⊢ 𝓤 _) $ await ! tt $ pick ! (λ r.
      split ! $ move ! (1 ∷ []) $ use1 𝓛 (raw (fact 𝓤 (φ r))) (ex_e 𝓤 _ (λ ws. via 𝓤 _ (snd∗ 𝓤 (sem 𝓛 (lasts T y.0.0 y.0.3 ws)) _) (promise r (at_exit T y.0.0 y.0.3 ws)))) $ heard ! (φ r) (λ e.
      split ! $ move ! (1 ∷ []) $ facts ! R (Is R) (shows 𝓛 R) r (u ∷ []) (λ is. subst (λ (us : List Val). Is R r us → Seq Go 𝓛 (tokens ∷ Γ) (lands C Λ E to (only us) then q)) (sym (tells r (u ∷ []) is)) (k r e) is)))

  -- A function returns v, the machine value of r: tokens and what r owns are enough, with its promise, where nothing is said of the last
  -- values ws.
  pub returned : (v : Val) (r : Res T.signature y.0.0) (ws : Lasts T y.0.0 y.0.3) → ent 𝓤 (emp 𝓤) (sem 𝓛 (lasts T y.0.0 y.0.3 ws)) → ent 𝓤 (emp 𝓤) ((c y.0.0 y.0.3).ensures y.1 r (at_exit T y.0.0 y.0.3 ws))
      → ent 𝓤 (sep 𝓤 (alive 𝓛 T.signature y.0.0 y.0.1) (sem 𝓛 ((type_at T.signature.result y.0.0).own_val r (v ∷ [])))) ((triple_of 𝓛 T.signature (closing 𝓛 T c)).post y v)
  returned v r ws last promise =
      let R = type_at T.signature.result y.0.0 in
      let back : Res T.signature y.0.0 → SProp 𝓤 = λ x. sep 𝓤 (alive 𝓛 T.signature y.0.0 y.0.1) (sem 𝓛 (R.own_val x (v ∷ []))) in
      let left : Lasts T y.0.0 y.0.3 → SProp 𝓤 = λ zs. sep 𝓤 (sem 𝓛 (lasts T y.0.0 y.0.3 zs)) ((c y.0.0 y.0.3).ensures y.1 r (at_exit T y.0.0 y.0.3 zs)) in
      qed 𝓛 (raw (back r) ∷ []) ∵ updating ! $ at_once ! $ show ! (λ (x : Res T.signature y.0.0). sep 𝓤 (back x) (ensured 𝓛 T c y.0.0 y.0.3 y.1 x)) r $ frame ! $
      show ! left ws $ use0 𝓛 (raw ((c y.0.0 y.0.3).ensures y.1 r (at_exit T y.0.0 y.0.3 ws))) promise $ use0 𝓛 (‵ (lasts T y.0.0 y.0.3 ws)) last $ done !
