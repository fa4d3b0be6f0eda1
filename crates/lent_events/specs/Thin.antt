-- The walk of a thin call: the lent record is copied out, the covered call runs on the copy and on the other parameters, the record that it
-- gave is stored, whatever it answered. So one walk serves all nine calls, whatever the other parameters are. Assumes nothing.
use Rattle.std.specs.Prelude.{ℕ, suc, List, [], ◌∷◌, ◌++◌}
use mir.Syntax.{Callee, Fn, local, value_local, place, field, deref, copy, rv_opd, assign, call, seq, return}
use Rattle.events.proofs.Stream.TheLaws as T'
use Rattle.lent_events.specs.Answers.{Answers, given_ty}
use Rattle.lent_events.specs.Lent.{ref_ty}
use Rattle.lent_events.specs.Params.{Kind, param_types, fresh_types, locals, past, lends, operands}

-- the locals behind the parameters: the copy of the record, what the covered call gives, and those of the slices that are lent again
abbrev pub before : List Kind → ℕ
before ks = suc (suc (past (param_types ks) 0))

abbrev pub given : List Kind → ℕ
given ks = suc (suc (past (param_types ks) 1))

abbrev pub fresh : List Kind → ℕ
fresh ks = suc (suc (past (param_types ks) 2))

-- and the one through which the record that was given goes back
abbrev pub back : List Kind → ℕ
back ks = suc (suc (past (param_types ks) (suc (suc (past (fresh_types ks) 0)))))

-- The code of a thin call in MIR, over the family of its answer, the kinds of its other parameters and the callee's name.
abbrev pub shape : Answers → List Kind → Callee → Fn
shape F ks n = record {
  lifetimes = 3;
  outlives = [];
  ty_params = [];
  givens = 0;
  params = past (param_types ks) 1;
  locals = local F.ty value_local ∷ local ref_ty value_local ∷ (locals (param_types ks) ++ (local T'.mir value_local ∷ local (given_ty F) value_local ∷ (locals (fresh_types ks) ++ (local T'.mir value_local ∷ []))));
  body = seq (assign (place (before ks) []) (rv_opd (copy (place 1 (deref T'.mir ∷ []))))) (lends 2 (fresh ks) ks
      (seq (call n (copy (place (before ks) []) ∷ operands 2 (fresh ks) ks) (place (given ks) []))
      (seq (assign (place (back ks) []) (rv_opd (copy (place (given ks) (field 0 ∷ [])))))
      (seq (assign (place 1 (deref T'.mir ∷ [])) (rv_opd (copy (place (back ks) []))))
      (seq (assign (place 0 []) (rv_opd (copy (place (given ks) (field 1 ∷ []))))) return)))));
}
