-- The five shapes of the nine calls: which rooms are lent, and what else is passed; and what a call of each shape promises, by the call's
-- name in document 01's values. A room that is read is after the call what it was before. Assumes nothing.
use Rattle.std.specs.Prelude.{ℕ, refl, List, [], ◌∷◌, length}
use mir.Syntax.{Width, named, imm, w16, w32, w64, ty_int}
use denote.Plain.{UInt, uint_vals, uint_Tells, uint_Lawful}
use denote.Builtin.{SliceRefOf, SliceRefMutOf}
use denote.Signature.{AllWithin, plain, meet_at}
use denote.Slice.{shr_slice_vals, mut_slice_vals, shr_slice_Tells, mut_slice_Tells, shr_slice_Lawful}
use denote.Steps.{only}
use denote.Struct.Declared as SD
use denote.Struct.Laws as LL
use denote.Struct.Struct.{layout}
use Rattle.walks.specs.Steps.{slice_ty}
use Rattle.event_record.specs.declared.Position.{Position}
use Rattle.event_record.specs.declared.Span.{Span}
use Rattle.event_record.specs.Record.{Call}
use Rattle.event_record.specs.contracts.Position as P
use Rattle.event_record.proofs.Position.TheLaws as P'
use Rattle.event_record.specs.contracts.Span as S
use Rattle.event_record.proofs.Span.TheLaws as S'
use Rattle.events.specs.Stream.{state}
use Rattle.lent_events.specs.Answers.{Answers, Claim, dones}
use Rattle.lent_events.specs.Lifted.{Param, Promise}
use Rattle.lent_events.specs.Params.{passed, again}

-- a slice of numbers at lifetime j of the signature, read or lent
abbrev read : (j : ℕ) → AllWithin 3 (j ∷ []) → Width → Param
read j ok w = record {
  slot = SliceRefOf (j ∷ []) ok (plain (λ _. UInt w)) (λ _. tt);
  kind = passed (slice_ty (named j) imm w);
  spell = λ κs. shr_slice_vals;
  tells = λ κs. shr_slice_Tells (named j) (meet_at 3 (j ∷ []) ok κs) (UInt w);
  argument = λ 𝓛 κs x is. (only (shr_slice_vals x), ((shr_slice_Lawful 𝓛 (named j) (meet_at 3 (j ∷ []) ok κs) (UInt w)).typed x _ is).0);
  same = λ 𝓛 κs x is. refl;
}

abbrev lent : (j : ℕ) → AllWithin 3 (j ∷ []) → Width → Param
lent j ok w = record {
  slot = SliceRefMutOf (j ∷ []) ok (plain (λ _. UInt w)) (λ _. tt);
  kind = again (named j) w;
  spell = λ κs. mut_slice_vals;
  tells = λ κs. mut_slice_Tells (named j) (meet_at 3 (j ∷ []) ok κs) (UInt w);
  argument = λ 𝓛 κs x is. (x.ref_ptr, length x.now, is.0.1.0);
  same = λ 𝓛 κs x is. refl;
}

-- a number, and a struct of plain data
abbrev number : Width → Param
number w = record {
  slot = plain (λ _. UInt w);
  kind = passed (ty_int w);
  spell = λ κs. uint_vals w;
  tells = λ κs. uint_Tells w;
  argument = λ 𝓛 κs x is. (only (uint_vals w x), ((uint_Lawful 𝓛 w).typed x _ is).0);
  same = λ 𝓛 κs x is. refl;
}

abbrev whole : (D : SD.Declared) → LL.Laws D → Param
whole D L = record {
  slot = plain (λ _. SD.row D);
  kind = passed (layout (SD.shape D));
  spell = λ κs. LL.vals D L;
  tells = λ κs. LL.tells D L;
  argument = λ 𝓛 κs x is. (LL.val D L x, ((LL.lawful D L 𝓛).typed x _ is).0);
  same = λ 𝓛 κs x is. refl;
}

-- push_token, push_error
abbrev pub push : List Param
push = lent 1 tt w32 ∷ read 2 tt w64 ∷ number w16 ∷ whole S.the_type S'.the_laws ∷ []

abbrev pub pushing : (ℕ → Span → Call) → Promise dones push
pushing c κs h a e t z = Claim dones (c a.1.1.0 a.1.1.1.0) e (state t z.0.now a.1.0.now) (state h a.0.now a.1.0.now)

-- begin
abbrev pub open_node : List Param
open_node = lent 1 tt w32 ∷ lent 2 tt w64 ∷ number w16 ∷ []

abbrev pub opening : (ℕ → Call) → Promise dones open_node
opening c κs h a e t z = Claim dones (c a.1.1.0) e (state t z.0.now z.1.0.now) (state h a.0.now a.1.0.now)

-- end, end_with_error
abbrev pub close_node : List Param
close_node = lent 1 tt w32 ∷ read 2 tt w64 ∷ []

abbrev pub closing : Call → Promise dones close_node
closing c κs h a e t z = Claim dones c e (state t z.0.now a.1.0.now) (state h a.0.now a.1.0.now)

-- bookmark, pop
abbrev pub ask : List Param
ask = read 1 tt w32 ∷ read 2 tt w64 ∷ []

abbrev pub asking : (F : Answers) → Call → Promise F ask
asking F c κs h a e t z = Claim F c e (state t a.0.now a.1.0.now) (state h a.0.now a.1.0.now)

-- truncate, remove_bookmark
abbrev pub at_mark : List Param
at_mark = read 1 tt w32 ∷ read 2 tt w64 ∷ whole P.the_type P'.the_laws ∷ []

abbrev pub marking : (Position → Call) → Promise dones at_mark
marking c κs h a e t z = Claim dones (c a.1.1.0) e (state t a.0.now a.1.0.now) (state h a.0.now a.1.0.now)
