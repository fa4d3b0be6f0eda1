-- From the walk to contracts: a thin call meets its own where the covered call meets the same of the record by value. A contract speaks
-- of tokens, result and last values; the covered call gives all but the record's last value, which is the record that was stored.
-- Assumes nothing.
use Rattle.std.specs.Prelude.{◌≡◌, refl, List, [], ◌∷◌, ◌++◌}
use Rattle.std.proofs.Common.{sym, subst, ap, ◌∙◌}
use seplogic.Ra.Ura.{Ura}
use mir.Syntax.{Callee, named}
use mir.Val.{Val}
use base.Logic.{SProp, ent, sep, ex, emp, via, id⊢}
use base.Fml.{Fml, ftrue, fsep, fres, fbor}
use prog.Wp.{Calls, Loops, WpFn, Tables}
use types.Logic.{Logic, sem}
use types.SemTy.{Body as Lies}
use sound.WpLaws.{FmC, fm_of}
use contract.Monad.{fact}
use contract.Lifetimes.{Lfts, Shares, toks}
use types.Kit.{‵, raw, ◌⊛◌, some, ⋆, ◌$◌, ◌∵◌, !, qed, by, move, drop, use1, split, pick, join, keep, fsplit, fjoin, frame, show, updating, now as at_once, done}
use denote.RattleType.{Denots, flat, owns}
use denote.Memory.{mem}
use denote.Laws.{Is, Ises, Tellss}
use denote.Exit.{yes}
use denote.Ref.{mut_vals, mut_Tells}
use denote.Signature.{types_at}
use denote.Steps.{owned, heard, nothing}
use denote.Struct.Laws as LL
use denote.Triple.Clauses.{Clauses, closing}
use denote.Triple.End.{all, Fins, outs, lasts_of}
use denote.Triple.Spec.{Meets}
use Rattle.walks.proofs.Contracts.{spelled}
use Rattle.events.specs.declared.Stream.{Stream}
use Rattle.events.specs.contracts.Stream as T
use Rattle.events.proofs.Stream.TheLaws as T'
use Rattle.lent_events.specs.Answers.{Answers, stream_val}
use Rattle.lent_events.specs.Lent.{Lent, lent_out, ref_val, reference, token, closed}
use Rattle.lent_events.specs.Params.{value, Arguments, passed_values}
use Rattle.lent_events.specs.Thin.{shape}
use Rattle.lent_events.proofs.Thin.{walk}
use Rattle.lent_events.specs.Lifted.{Known, Param, Promise, Promised, kinds, slots, spells, spelt, thin_ended}

tells_all : (ps : List Param) (κs : Lfts 3) → Tellss (types_at (slots ps) κs) (Ises (types_at (slots ps) κs)) (spells ps κs)
tells_all [] κs = tt
tells_all (p ∷ ps) κs = (p.tells κs, tells_all ps κs)

module _ {M : Type 1} {𝓤 : Ura M} (𝓛 : Logic 𝓤) where
  abbrev pub arguments : (ps : List Param) (κs : Lfts 3) (a : Denots (types_at (slots ps) κs)) → Known ps κs a → Arguments (kinds ps)
  arguments [] κs a is = tt
  arguments (p ∷ ps) κs a is = (p.argument 𝓛 κs a.0 is.0, arguments ps κs a.1 is.1)

  same_all : (ps : List Param) (κs : Lfts 3) (a : Denots (types_at (slots ps) κs)) (is : Known ps κs a) → flat (types_at (slots ps) κs) (spelt ps κs a) ≡ passed_values (kinds ps) (arguments ps κs a is)
  same_all [] κs a is = refl
  same_all (p ∷ ps) κs a is = ap (λ (vs : List Val). vs ++ flat (types_at (slots ps) κs) (spelt ps κs a.1)) (p.same 𝓛 κs a.0 is.0) ∙ ap (λ (vs : List Val). value p.kind (p.argument 𝓛 κs a.0 is.0) ∷ vs) (same_all ps κs a.1 is.1)

module _ (F : Answers) (ps : List Param) where
  module _ {M : Type 1} {𝓤 : Ura M} (𝓛 : Logic 𝓤) (n : Callee) (Says : Promise F ps) (C : Calls 𝓤 𝓛.H) (Λ : Loops 𝓤 𝓛.H) (fm : FmC 𝓤 𝓛.H 𝓛.laws C) (κs : Lfts 3) (qs : Shares 3) (h : Stream) (a : Denots (types_at (slots ps) κs)) (is : Known ps κs a) where
    -- the others' tokens, what they own, their last values, and what is promised of these
    open 𝓛 use {H}

    abbrev tokens : SProp 𝓤
    tokens = toks 𝓛 2 κs.1 qs.1

    abbrev owned_by_others : Fml
    owned_by_others = owns (types_at (slots ps) κs) a (spelt ps κs a)

    abbrev Lasts : Type 0
    Lasts = Fins κs (slots ps) (all yes (slots ps)) a

    abbrev lasts : Lasts → Fml
    lasts = lasts_of κs (slots ps) (all yes (slots ps)) a

    abbrev Said : F.answer.Denot → Stream → Lasts → Type 0
    Said e t ws = Says κs h a e t (outs κs (slots ps) (all yes (slots ps)) a ws)

    abbrev passed : Arguments (kinds ps)
    passed = arguments 𝓛 ps κs a is

    -- what the covered call ensures of its result; that it meets this, the record being passed by value
    abbrev core_says : F.given.Denot → SProp 𝓤
    core_says x = ex 𝓤 (λ (ws : Unit {0} × Lasts). sep 𝓤 (sem 𝓛 (fsep ftrue (lasts ws.1))) (fact 𝓤 (Said (F.answer_of x) (F.stream_of x) ws.1)))

    abbrev pub Covered : Type 1
    Covered =
        ent 𝓤 (sep 𝓤 (sep 𝓤 tokens (sem 𝓛 (fsep ((T.the_row).own_val h (stream_val h ∷ [])) owned_by_others))) (emp 𝓤))
        (C n (stream_val h ∷ passed_values (kinds ps) passed) (λ w. H.⇛ (ex 𝓤 (λ (x : F.given.Denot). sep 𝓤 (sep 𝓤 tokens (sem 𝓛 (F.given.own_val x (w ∷ [])))) (core_says x)))))

    module _ (r : Lent) (c : Clauses 𝓤 (thin_ended F ps)) (g : (c κs (lent_out r h, a)).ghost) where
      -- what the thin call leaves: the last values and the record's borrow with its promise; tokens, the answer and that
      abbrev left_with : F.answer.Denot → Stream × Lasts → SProp 𝓤
      left_with e ws = sep 𝓤 (sem 𝓛 (fsep (fsep (fres r.name ((T.the_row).coded.code ws.0)) (fbor r.lft (Lies (mem T.the_row) r.block r.offset r.name))) (lasts ws.1))) ((c κs (lent_out r h, a)).ensures g e (lent_out r ws.0, outs κs (slots ps) (all yes (slots ps)) a ws.1))

      abbrev answered_with : Val → F.answer.Denot → SProp 𝓤
      answered_with v e = sep 𝓤 (sep 𝓤 (sep 𝓤 (sem 𝓛 (token r)) tokens) (sem 𝓛 (F.answer.own_val e (v ∷ [])))) (ex 𝓤 (left_with e))

      abbrev thin_post : Val → SProp 𝓤
      thin_post v = H.⇛ (ex 𝓤 (answered_with v))

      -- at exit the lender reads the record that was stored
      exits : Promised F ps 𝓤 Says c → (x : F.given.Denot) → Is F.answer (F.answer_of x) (F.val (F.answer_of x) ∷ []) → ent 𝓤 (⋆ 𝓛 (closed r (F.stream_of x) (raw tokens ∷ raw (core_says x) ∷ []))) (thin_post (F.val (F.answer_of x)))
      exits promised x i =
          qed 𝓛 (closed r (F.stream_of x) (raw tokens ∷ raw (core_says x) ∷ [])) ∵
          updating ! $ at_once ! $ move ! (4 ∷ []) $ use1 𝓛 (some (λ (ws : Unit {0} × Lasts). ‵ (fsep ftrue (lasts ws.1)) ⊛ raw (fact 𝓤 (Said (F.answer_of x) (F.stream_of x) ws.1)))) (id⊢ 𝓤 _) $ pick ! (λ ws. split ! $ fsplit ! $ drop ! $ move ! (1 ∷ []) $ heard ! _ (λ said.
          -- [the last values; the record's last value; its borrow; its token; the others' tokens]
          show ! (answered_with (F.val (F.answer_of x))) (F.answer_of x) $ owned ! F.answer (Is F.answer) (F.makes 𝓛) (F.answer_of x) _ i $ move ! (4 ∷ 5 ∷ []) $ join ! $ join ! $ frame ! $
          show ! (left_with (F.answer_of x)) (F.stream_of x, ws.1) $ move ! (1 ∷ []) $ use1 𝓛 (‵ (fres r.name ((T.the_row).coded.code (F.stream_of x)))) (𝓛.names.obs-res r.name ((T.the_row).coded.code (F.stream_of x))) $ move ! (0 ∷ 2 ∷ []) $ fjoin ! $ fjoin ! $ frame ! $
          by ! (promised κs (lent_out r h, a) g (F.answer_of x) _ said)))

      lifted : Promised F ps 𝓤 Says c → Covered → ent 𝓤 (sep 𝓤 (sep 𝓤 (sep 𝓤 (sem 𝓛 (token r)) tokens) (sem 𝓛 (fsep (reference r h) owned_by_others))) ((c κs (lent_out r h, a)).requires g)) (WpFn 𝓤 H C Λ (shape F (kinds ps) n) (ref_val r ∷ passed_values (kinds ps) passed) thin_post)
      lifted promised known =
          via 𝓤 _
          (qed 𝓛 (((‵ (token r) ⊛ raw tokens) ⊛ ‵ (fsep (reference r h) owned_by_others)) ∷ raw ((c κs (lent_out r h, a)).requires g) ∷ []) ∵ split ! $ split ! $ move ! (2 ∷ []) $ fsplit ! $ move ! (0 ∷ 2 ∷ 3 ∷ 1 ∷ []) $ frame ! $ frame ! $ keep ! (0 ∷ 1 ∷ []) $ done !)
          (walk 𝓛 F n (kinds ps) passed r h (sep 𝓤 tokens (sem 𝓛 owned_by_others)) tokens core_says thin_post C Λ fm
          (λ i. via 𝓤 _ (qed 𝓛 (raw tokens ∷ ‵ owned_by_others ∷ []) ∵ move ! (1 ∷ []) $ owned ! T.the_row (Is T.the_row) (LL.makes T.the_type T'.the_plain 𝓛) h (stream_val h ∷ []) i $ fjoin ! $ move ! (1 ∷ 0 ∷ []) $ join ! $ nothing ! $ move ! (1 ∷ 0 ∷ []) $ done !) known)
          (exits promised))

  -- The thin call meets its contract where that follows from the promise, and the covered call meets the promise of the record by value.
  pub meets : {M : Type 1} {𝓤 : Ura M} (𝓛 : Logic 𝓤) (n : Callee) (Says : Promise F ps) (𝓣 : Tables 𝓤 𝓛.H) (c : Clauses 𝓤 (thin_ended F ps)) → Promised F ps 𝓤 Says c
      → ((κs : Lfts 3) (qs : Shares 3) (h : Stream) (a : Denots (types_at (slots ps) κs)) (is : Known ps κs a) → Covered 𝓛 n Says 𝓣.C 𝓣.Λ (fm_of 𝓤 𝓛.H 𝓛.laws 𝓣) κs qs h a is)
      → Meets 𝓛 (thin_ended F ps).signature (WpFn 𝓤 𝓛.H 𝓣.C 𝓣.Λ (shape F (kinds ps) n)) (closing 𝓛 (thin_ended F ps) c)
  meets {𝓤 = 𝓤} 𝓛 n Says 𝓣 c promised known =
      let run = WpFn 𝓤 𝓛.H 𝓣.C 𝓣.Λ (shape F (kinds ps) n) in
      spelled 𝓛 (thin_ended F ps).signature (closing 𝓛 (thin_ended F ps) c) run (λ κs. (mut_vals, spells ps κs)) (λ κs. (mut_Tells (named 0) κs.0 T.the_row, tells_all ps κs))
      (λ κs qs bounds a g are.
      let r : Lent = record { lft = κs.0; share = qs.0; block = a.0.ref_ptr.0; offset = a.0.ref_ptr.1; name = a.0.ghost_name } in
      let post = thin_post 𝓛 n Says 𝓣.C 𝓣.Λ (fm_of 𝓤 𝓛.H 𝓛.laws 𝓣) κs qs a.0.now a.1 are.1 r c g in
      subst (λ (vs : List Val). ent 𝓤 (sep 𝓤 (sep 𝓤 (sep 𝓤 (sem 𝓛 (token r)) (toks 𝓛 2 κs.1 qs.1)) (sem 𝓛 (fsep (reference r a.0.now) (owns (types_at (slots ps) κs) a.1 (spelt ps κs a.1))))) ((c κs a).requires g)) (run (ref_val r ∷ vs) post))
      (sym (same_all 𝓛 ps κs a.1 are.1))
      (lifted 𝓛 n Says 𝓣.C 𝓣.Λ (fm_of 𝓤 𝓛.H 𝓛.laws 𝓣) κs qs a.0.now a.1 are.1 r c g promised (known κs qs a.0.now a.1 are.1)))
