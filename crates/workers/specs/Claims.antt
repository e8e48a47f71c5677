-- Answers with a place, and the calls of a log.
use Rattle.std.specs.Prelude.{◌≡◌, ℕ, ◌<◌, ◌≤◌, ◌==◌, List, [], ◌∷◌, Bool, true, false, Option, Some, None, IsTrue, All, length, slice_get, slice_index_or, count_by, flat_map}
use Rattle.commitlog.specs.Histories.{IsOrderly}
use Rattle.commitlog.specs.Records.{Record, Token, Call}
use Rattle.workers.specs.declared.shares.Given.{Given}
use Rattle.workers.specs.declared.shares.Given.TheVariants.{Answered, Refused, TurnsOut}
use Rattle.workers.specs.declared.shares.Response.{Response}
use Rattle.workers.specs.declared.shares.Share.{Share}
use Rattle.workers.specs.declared.gathering.Claim.{Claim}
use Rattle.workers.specs.declared.errors.GatherError.{GatherError}
use Rattle.workers.specs.declared.errors.GatherError.TheVariants.{Stranger, Double, Missing, NoMemory}

-- whether a record is a call
abbrev pub is_call : Record → Bool
is_call (Token p n) = false
is_call (Call s n p args o r) = true

abbrev pub is_call_in : Option Record → Bool
is_call_in None = false
is_call_in (Some r) = is_call r

-- whether a call stands at a place
abbrev pub is_call_at : List Record → ℕ → Bool
is_call_at records p = is_call_in (slice_get records p)

module _ {A : Type 0} where
  -- the record is the call that was answered so
  abbrev pub IsCallOf : Claim A → Record → Type 0
  IsCallOf c (Token p n) = ⊥
  IsCallOf c (Call s n p args o r) = (s ≡ c.session) × (n ≡ c.number) × (o ≡ c.answer.outcome) × (r ≡ c.answer.replies)

  abbrev pub IsCallIn : Claim A → Option Record → Type 0
  IsCallIn c None = ⊥
  IsCallIn c (Some r) = IsCallOf c r

  -- at the answer's place stands its call
  abbrev pub IsOf : List Record → Claim A → Type 0
  IsOf records c = IsCallIn c (slice_get records c.answer.place)

  -- how many answers have a place
  abbrev pub times : ℕ → List (Claim A) → ℕ
  times p claims = count_by (λ c. c.answer.place == p) claims

  -- what a session was given with a place
  abbrev pub claim_of : (session number : ℕ) → Given A → List (Claim A)
  claim_of session number (Answered a) = record { session = session; number = number; answer = a } ∷ []
  claim_of session number (Refused r) = []
  claim_of session number TurnsOut = []

  -- the answers of a session that have a place
  abbrev pub claims_of : ℕ → List (Response A) → List (Claim A)
  claims_of session answers = flat_map (λ r. claim_of session r.number r.given) answers

  -- those of all shares
  abbrev pub all_claims : {T : Type 0} → List (Share T A) → List (Claim A)
  all_claims shares = flat_map (λ s. claims_of s.session s.answers.items) shares

  -- each answer has its call, and each call has one answer
  pub record AreAnswered (records : List Record) (claims : List (Claim A)) : Type 0 where
    pub fit : All (IsOf records) claims
    pub once : (p : ℕ) → IsTrue (is_call_at records p) → times p claims ≡ 1

  -- what each refusal tells
  abbrev pub Fault : List Record → List (Claim A) → GatherError → Type 0
  Fault records claims Stranger = (k : ℕ) × (k < length claims) × ((d : Claim A) → ¬ IsOf records (slice_index_or claims k d))
  Fault records claims Double = (p : ℕ) × IsTrue (is_call_at records p) × (2 ≤ times p claims)
  Fault records claims (Missing p) = IsTrue (is_call_at records p) × (times p claims ≡ 0) × ((q : ℕ) → q < p → IsTrue (is_call_at records q) → times q claims ≡ 1)
  Fault records claims NoMemory = Unit {0}

  -- why one answer is refused, where these places have one already
  abbrev pub OneFault : List Record → Claim A → List Bool → GatherError → Type 0
  OneFault records c seen Stranger = ¬ IsOf records c
  OneFault records c seen Double = IsOf records c × (slice_index_or seen c.answer.place false ≡ true) × (c.answer.place < length records)
  OneFault records c seen (Missing p) = ⊥
  OneFault records c seen NoMemory = ⊥

abbrev pub mark_of : Bool → ℕ
mark_of true = 1
mark_of false = 0

-- of two answers of a session that are calls of an orderly log, the one with the greater number has the later place
abbrev pub PlacesRise : Type 0 → Type 0
PlacesRise A =
    (records : List Record) → IsOrderly records → (c d : Claim A) → IsOf records c → IsOf records d →
    c.session ≡ d.session → c.number < d.number → c.answer.place < d.answer.place
