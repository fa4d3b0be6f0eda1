-- From the walk to contracts: a thin call meets its own where the covered call meets the same of the record by value. A contract speaks
-- of tokens, result and last values; the covered call gives all but the record's last value, which is the record that was stored.
-- Assumes nothing.
use Rattle.std.specs.Prelude.{◌≡◌, List, [], ◌∷◌}
use seplogic.Ra.Ura.{Ura}
use mir.Val.{Val}
use types.Logic.{Logic}
use contract.Lifetimes.{Lfts}
use denote.RattleType.{Denots, Valss}
use denote.Laws.{Is, Are, Ises, Spells, Tells, valss}
use denote.Builtin.{RefMutOf}
use denote.Exit.{yes}
use denote.Signature.{Slot, plain, type_at, types_at}
use denote.Triple.Clauses.{Ended, Clauses}
use denote.Triple.End.{all, Outs}
use Rattle.walks.specs.Contracts.{Follows}
use Rattle.events.specs.declared.Stream.{Stream}
use Rattle.events.specs.contracts.Stream as T
use Rattle.lent_events.specs.Answers.{Answers}
use Rattle.lent_events.specs.Params.{Kind, Passed, value}

-- A parameter beside the record: its type in a thin call's signature, how the code hands it on, its machine value, and what is passed then.
pub record Param : Type 2 where
  pub slot : Slot 3
  pub kind : Kind
  pub spell : (κs : Lfts 3) → (type_at slot κs).Denot → List Val
  pub tells : (κs : Lfts 3) → Tells (type_at slot κs) (Is (type_at slot κs)) (spell κs)
  pub argument : {M : Type 1} {𝓤 : Ura M} (𝓛 : Logic 𝓤) → (κs : Lfts 3) (x : (type_at slot κs).Denot) → Is (type_at slot κs) x (spell κs x) → Passed kind
  pub same : {M : Type 1} {𝓤 : Ura M} (𝓛 : Logic 𝓤) (κs : Lfts 3) (x : (type_at slot κs).Denot) (is : Is (type_at slot κs) x (spell κs x)) → spell κs x ≡ value kind (argument 𝓛 κs x is) ∷ []

-- the same of a list of them
abbrev pub slots : List Param → List (Slot 3)
slots [] = []
slots (p ∷ ps) = p.slot ∷ slots ps

abbrev pub kinds : List Param → List Kind
kinds [] = []
kinds (p ∷ ps) = p.kind ∷ kinds ps

abbrev pub spells : (ps : List Param) (κs : Lfts 3) → Spells (types_at (slots ps) κs)
spells [] κs = tt
spells (p ∷ ps) κs = (p.spell κs, spells ps κs)

-- the machine values, one list for each; their relations; and what is passed
module _ (ps : List Param) (κs : Lfts 3) (a : Denots (types_at (slots ps) κs)) where
  abbrev pub spelt : Valss (types_at (slots ps) κs)
  spelt = valss (types_at (slots ps) κs) (spells ps κs) a

  abbrev pub Known : Type 0
  Known = Are (types_at (slots ps) κs) (Ises (types_at (slots ps) κs)) a spelt

-- What a thin call promises: of the record and the others on entry, the answer, the record on exit and the last values of the others.
abbrev pub Promise : Answers → List Param → Type 1
Promise F ps = (κs : Lfts 3) → Stream → Denots (types_at (slots ps) κs) → F.answer.Denot → Stream → Outs κs (slots ps) (all yes (slots ps)) → Type 0

module _ (F : Answers) (ps : List Param) where
  -- its signature
  abbrev pub thin_ended : Ended
  thin_ended = record { signature = record { lifetimes = 3; outlives = []; params = RefMutOf (0 ∷ []) tt (plain (λ _. T.the_row)) (λ _. tt) ∷ slots ps; result = plain (λ _. F.answer) }; kept = (yes, all yes (slots ps)) }

  -- that its contract follows from the promise
  abbrev pub Promised : {M : Type 1} (𝓤 : Ura M) → Promise F ps → Clauses 𝓤 thin_ended → Type 1
  Promised 𝓤 Says = Follows 𝓤 thin_ended (λ κs a e z. Says κs a.0.now a.1 e z.0.now z.1)
