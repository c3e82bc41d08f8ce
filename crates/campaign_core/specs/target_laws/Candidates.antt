-- What runs show of a target about which nothing is proved: whether they break a law of a target, and which.
use Rattle.std.specs.Prelude.{◌≡◌, ℕ, ◌<◌, Bool, true, false, List, [], ◌∷◌, ◌++◌, Option, None, Some, Ok, Contains, codes, length, slice_index_or}
use Rattle.scenario_values.specs.Scenario.{Entries}
use Rattle.scenario_grammar.specs.FirstFault.{reading}
use Rattle.action_eval.specs.Catalogue.{IsCatalogue}
use Rattle.target_trait.specs.declared.judgement.Verdict.{Verdict}
use Rattle.campaign_core.specs.declared.target_laws.broken.BrokenLaw.{BrokenLaw}
use Rattle.campaign_core.specs.declared.target_laws.broken.BrokenLaw.TheVariants.{Catalogue, AsksAfterHalt, KeepsState}
use Rattle.campaign_core.specs.declared.target_laws.candidate.Looked.{Looked}

-- A run that was made: what it was made under, and what it came to.
pub record Look : Type 0 where
  pub scenario : Entries
  pub seed : ℕ
  pub stream : ℕ
  pub limit : ℕ
  pub verdict : Verdict
  pub asked : List ℕ
  pub is_asked_on : Bool

abbrev pub look : Entries → ℕ → ℕ → ℕ → Looked → Look
look scenario seed stream limit looked = record {
  scenario = scenario;
  seed = seed;
  stream = stream;
  limit = limit;
  verdict = looked.verdict;
  asked = looked.asked.items;
  is_asked_on = looked.is_asked_on;
}

-- Runs that were made one after another lead from one state of a candidate to another.
abbrev pub Lead : {S : Type 0} → (S → Look → S → Type 0) → S → List Look → S → Type 0
Lead made a [] b = a ≡ b
Lead {S} made a (l ∷ looks) b = (c : S) × made a l c × Lead made c looks b

-- A run for this scenario, made like all runs that look for a broken law: under this seed and limit of hits, and under stream number 0.
pub record IsUnder (seed limit : ℕ) (s : Entries) (l : Look) : Type 0 where
  pub scenario : l.scenario ≡ s
  pub seed_is : l.seed ≡ seed
  pub stream : l.stream ≡ 0
  pub limit_is : l.limit ≡ limit

-- The scenario `name=panic`, which stops a run at the first hit of a point. There is none if no scenario can have that name.
abbrev pub Halts : List ℕ → Entries → Type 0
Halts name s = reading (name ++ codes "=panic") ≡ Ok s

-- One of the runs was made under this scenario, and asked nothing after it was stopped.
pub record IsStopped (seed limit : ℕ) (looks : List Look) (s : Entries) : Type 0 where
  pub run : Look
  pub made : Contains looks run
  pub under : IsUnder seed limit s run
  pub stays : run.is_asked_on ≡ false

abbrev pub IsStoppedAt : ℕ → ℕ → List Look → List ℕ → Type 0
IsStoppedAt seed limit looks name = (s : Entries) → Halts name s → IsStopped seed limit looks s

-- One of the runs was stopped at the point, and asked on.
pub record IsAskedOnAt (looks : List Look) (name : List ℕ) : Type 0 where
  pub run : Look
  pub made : Contains looks run
  pub halts : Halts name run.scenario
  pub asks : run.is_asked_on ≡ true

-- False if a run was stopped at the point and asked nothing more, or if no scenario can have the point's name; true if a run asked on.
abbrev pub IsTriedAt : ℕ → ℕ → List Look → List ℕ → Bool → Type 0
IsTriedAt seed limit looks name false = IsStoppedAt seed limit looks name
IsTriedAt seed limit looks name true = IsAskedOnAt looks name

-- The same for all points: nothing more was asked at any of them or, below, a run asked on at one.
abbrev pub AreStopped : List (List ℕ) → ℕ → ℕ → List Look → Type 0
AreStopped names seed limit looks = (point : ℕ) → point < length names → IsStoppedAt seed limit looks (slice_index_or names point [])

abbrev pub AsksOn : List (List ℕ) → List Look → Type 0
AsksOn names looks = (point : ℕ) × (point < length names) × IsAskedOnAt looks (slice_index_or names point [])

abbrev pub AreTried : List (List ℕ) → ℕ → ℕ → List Look → Bool → Type 0
AreTried names seed limit looks false = AreStopped names seed limit looks
AreTried names seed limit looks true = AsksOn names looks

-- The first and the last of these runs were made without faults, and the others come between them.
pub record IsBetween (seed limit : ℕ) (looks between : List Look) (first last : Look) : Type 0 where
  pub are : looks ≡ first ∷ (between ++ last ∷ [])
  pub first_is : IsUnder seed limit [] first
  pub last_is : IsUnder seed limit [] last

abbrev pub AreAlike : Look → Look → Type 0
AreAlike a b = (a.verdict ≡ b.verdict) × (a.asked ≡ b.asked)

-- No law is seen to be broken: the names are a catalogue, two runs without faults came to the same, and between these two a run was stopped at each
-- point and asked nothing more.
pub record KeepsLaws (names : List (List ℕ)) (seed limit : ℕ) (looks : List Look) : Type 0 where
  pub catalogue : IsCatalogue names
  pub between : List Look
  pub first : Look
  pub last : Look
  pub whole : IsBetween seed limit looks between first last
  pub stopped : AreStopped names seed limit between
  pub alike : AreAlike first last

pub record DiffersAgain (seed limit : ℕ) (looks : List Look) : Type 0 where
  pub between : List Look
  pub first : Look
  pub last : Look
  pub whole : IsBetween seed limit looks between first last
  pub differ : AreAlike first last → ⊥

-- The law that the runs are seen to break, or none.
abbrev pub IsSeen : List (List ℕ) → ℕ → ℕ → List Look → Option BrokenLaw → Type 0
IsSeen names seed limit looks None = KeepsLaws names seed limit looks
IsSeen names seed limit looks (Some (Catalogue fault)) = IsCatalogue names → ⊥
IsSeen names seed limit looks (Some AsksAfterHalt) = AsksOn names looks
IsSeen names seed limit looks (Some KeepsState) = DiffersAgain seed limit looks

-- The same for the runs that were made from one state of a candidate to another.
abbrev pub IsSeenIn : {S : Type 0} → (S → Look → S → Type 0) → List (List ℕ) → ℕ → ℕ → S → S → Option BrokenLaw → Type 0
IsSeenIn made names seed limit a b law = (looks : List Look) × Lead made a looks b × IsSeen names seed limit looks law
