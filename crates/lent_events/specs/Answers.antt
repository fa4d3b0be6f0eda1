-- What the walk of a thin call wants to know of an answer and of the struct that gives it beside the stream. An answer is a `Result` of
-- plain data or a refusal, and the struct is `refusals::Given`, so all of it is had for any value at once (`family`). Assumes nothing.
use Rattle.std.specs.Prelude.{◌≡◌, refl, List, [], ◌∷◌, Option, Result, T as Holds}
use Rattle.std.proofs.Common.{ap}
use seplogic.Ra.Ura.{Ura}
use mir.Syntax.{Sym, Ty, ty_struct, tcons, tnil}
use mir.Val.{Val, WT, has_ty, vstruct, vnil, vcons}
use types.Logic.{Logic}
use denote.RattleType.{RattleType}
use denote.Laws.{Is, Makes}
use denote.Steps.{only}
use denote.Enum.Declared as ED
use denote.Enum.Laws as EL
use denote.Enum.Enum.{layout as enum_ty}
use denote.Struct.Declared as SD
use denote.Struct.Laws as LL
use denote.Struct.Laws.{unit-laws, unit-copy, unit-plain}
use denote.Struct.Field.{unit-field}
use denote.Param.Laws.{Laws, Told, of_field, field_told}
use denote.Param.Plain.{IsPlain}
use denote.Param.Shared.{copy_shared}
use Rattle.std.specs.contracts.option.Option as O
use Rattle.std.proofs.option.Option.TheLaws as O'
use Rattle.std.specs.contracts.result.Result as R
use Rattle.std.proofs.result.Result.TheLaws as R'
use Rattle.refusals.specs.Calls.{reply}
use Rattle.refusals.specs.declared.Refusal.{Refusal}
use Rattle.refusals.specs.declared.Given.{Given}
use Rattle.refusals.specs.contracts.Refusal as N
use Rattle.refusals.proofs.Refusal.TheLaws as N'
use Rattle.refusals.specs.contracts.Given as G
use Rattle.refusals.proofs.Given.TheLaws as G'
use Rattle.event_record.specs.Record.{Call, Answer}
use Rattle.event_record.specs.contracts.Position as Position
use Rattle.event_record.proofs.Position.TheLaws as Position'
use Rattle.event_record.specs.contracts.Event as Event
use Rattle.event_record.proofs.Event.TheLaws as Event'
use Rattle.events.specs.declared.Stream.{Stream}
use Rattle.events.specs.Stream.{State, step, done_told, position_told, event_told}
use Rattle.events.specs.contracts.Stream as T
use Rattle.events.proofs.Stream.TheLaws as T'

-- the machine value of a stream's record
abbrev pub stream_val : Stream → Val
stream_val h = only (LL.vals T.the_type T'.the_laws h)

-- The answer and the struct as types, the answer's type in MIR and the struct's name there; the machine value of an answer, and what it
-- is in document 01's values; the struct's two fields. Then what is known of them: the struct's machine value, the facts of its fields,
-- that both are typed as MIR types them, and that an answer owns only facts.
pub record Answers : Type 2 where
  pub answer : RattleType
  pub given : RattleType
  pub ty : Ty
  pub name : Sym
  pub val : answer.Denot → Val
  pub told : answer.Denot → Answer
  pub answer_of : given.Denot → answer.Denot
  pub stream_of : given.Denot → Stream
  pub tells : (r : given.Denot) (w : Val) → Is given r (w ∷ []) → w ≡ vstruct (vcons (stream_val (stream_of r)) (vcons (val (answer_of r)) vnil))
  pub holds : (r : given.Denot) (w : Val) → Is given r (w ∷ []) → Is answer (answer_of r) (val (answer_of r) ∷ []) × Is T.the_row (stream_of r) (stream_val (stream_of r) ∷ [])
  pub given_typed : {M : Type 1} {𝓤 : Ura M} (𝓛 : Logic 𝓤) → (r : given.Denot) (w : Val) → Is given r (w ∷ []) → Holds (has_ty (ty_struct name (tcons T'.mir (tcons ty tnil))) w) × WT w
  pub answer_typed : {M : Type 1} {𝓤 : Ura M} (𝓛 : Logic 𝓤) → (a : answer.Denot) → Is answer a (val a ∷ []) → Holds (has_ty ty (val a)) × WT (val a)
  pub makes : {M : Type 1} {𝓤 : Ura M} (𝓛 : Logic 𝓤) → Makes 𝓛 answer (Is answer)

-- The promise of all nine calls, covered and thin alike: the answer, and the state after it, are the step's.
abbrev pub Claim : (F : Answers) → Call → F.answer.Denot → State → State → Type 0
Claim F c a after before = reply (F.told a) after ≡ step c before

-- the struct's type in MIR, and its machine value
abbrev pub given_ty : Answers → Ty
given_ty F = ty_struct F.name (tcons T'.mir (tcons F.ty tnil))

abbrev pub given_val : (F : Answers) → F.given.Denot → Val
given_val F r = vstruct (vcons (stream_val (F.stream_of r)) (vcons (F.val (F.answer_of r)) vnil))

-- the family of a call that gives a value of type V: what is known of V as a type argument, its machine value, and that it is plain
module _ (V : RattleType) (L : Laws V) (t : Told V) (plain : IsPlain V) (told : Result V.Denot Refusal → Answer) where
  abbrev answer_type : ED.Declared
  answer_type = R.the_type V N.the_row

  abbrev answer_laws : EL.Laws answer_type
  answer_laws = R'.the_laws V N.the_row L N'.the_row_laws t N'.the_told

  abbrev struct : SD.Declared
  struct = G.the_type V T.the_row

  abbrev laws : LL.Laws struct
  laws = G'.the_laws V T.the_row L T'.the_row_laws t T'.the_told

  abbrev pub family : Answers
  family = record {
    answer = ED.row answer_type;
    given = SD.row struct;
    ty = enum_ty (ED.shape answer_type);
    name = struct.name;
    val = EL.val answer_type answer_laws;
    told = told;
    answer_of = λ r. r.answer;
    stream_of = λ r. r.after;
    tells = λ r w is. ap only (LL.tells struct laws r (w ∷ []) is);
    holds = λ r w is. ((LL.owed struct laws r (w ∷ []) is).1.0, (LL.owed struct laws r (w ∷ []) is).0);
    given_typed = λ 𝓛 r w is. ((LL.lawful struct laws 𝓛).typed r (w ∷ []) is).0;
    answer_typed = λ 𝓛 a is. ((EL.lawful answer_type answer_laws 𝓛 tt).typed a (EL.val answer_type answer_laws a ∷ []) is).0;
    makes = EL.makes answer_type (R'.the_plain V N.the_row plain N'.the_row_plain);
  }

-- the three families
abbrev pub dones : Answers
dones = family unit-field.row (of_field unit-field unit-laws refl (copy_shared unit-field unit-copy)) (field_told unit-field unit-laws) unit-plain done_told

abbrev pub positions : Answers
positions = family Position.the_row Position'.the_row_laws Position'.the_told Position'.the_row_plain position_told

abbrev pub events : Answers
events = family (O.the_row Event.the_row) (O'.the_row_laws Event.the_row Event'.the_row_laws) (O'.the_told Event.the_row Event'.the_row_laws Event'.the_told) (O'.the_row_plain Event.the_row Event'.the_row_plain) event_told
