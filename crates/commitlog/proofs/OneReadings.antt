-- A text has one reading.
use Rattle.std.proofs.Common.{◌≡◌, inl, inr, ℕ, zero, suc, ◌+◌, ◌^◌, ◌≤◌, ◌<◌, List, [], ◌∷◌, ◌++◌, length, take, drop, get_or, refl, sym, ap, subst, ◌∙◌, append_assoc, arith}
use Rattle.std.specs.List.{AllByRecursion}
use Rattle.std.proofs.lemmas.List.{take_at, drop_at, length-append, append-nil, append_cancel_left}
use Rattle.byteorder.specs.Endian.{big_bytes}
use Rattle.byteorder.specs.Numbers.{length-bytes_high_first, big_number-reads_back}
use Rattle.sha2.specs.Sha256.{sha256}
use Rattle.sha2.proofs.Facts256.{length-sha256}
use Rattle.procedure.specs.Bytes.{Bytes}
use Rattle.commitlog.specs.Records.{Record}
use Rattle.commitlog.specs.declared.limits.TheConstants.{LOG_RECORDS}
use Rattle.commitlog.specs.declared.formats.Version.{Version}
use Rattle.commitlog.specs.declared.formats.Version.TheVariants.{One, Two}
use Rattle.commitlog.specs.declared.formats.LogHeader.{LogHeader}
use Rattle.commitlog.specs.declared.decoding.Ending.{Ending}
use Rattle.commitlog.specs.declared.decoding.Ending.TheVariants.{Clean, Torn}
use Rattle.commitlog.specs.LogBytes.{Fits, magic, body, greatest_body, log_header_bytes, first_digest, next_digest, record_bytes, records_bytes, digest_after, log_bytes}
use Rattle.commitlog.specs.LogReadings.{stated_length, stated_body, stated_digest, IsTorn, IsForeign, IsDamage, Ends, IsHeader, Begins, Log, NotALog, Damaged, IsReading, OneReading, IsReadAgain}
use Rattle.commitlog.proofs.BodyLaws.{one_body, body_bound}

-- equal texts, split at one place
pub same_front : (a b x y : Bytes) → length a ≡ length b → a ++ x ≡ b ++ y → (a ≡ b) × (x ≡ y)
same_front a b x y len e =
    let n = length a in
    (sym (take_at a x n refl) ∙ ap (take n) e ∙ take_at b y n (sym len), sym (drop_at a x n refl) ∙ ap (drop n) e ∙ drop_at b y n (sym len))

greatest_small : (v : Version) → greatest_body v < 2 ^ 32
greatest_small One = omega arith
greatest_small Two = omega arith

-- a record at the front, as it is taken apart
pub record At (d : Bytes) (r : Record) (left rest : Bytes) : Type 0 where
  pub stated : stated_length rest ≡ length (body r)
  pub said : stated_body rest ≡ body r
  pub digest : stated_digest rest ≡ next_digest d r
  pub size : length rest ≡ 4 + length (body r) + 32 + length left

-- behind four bytes, the body, the digest and what is left
regrouped : (d : Bytes) (r : Record) (left : Bytes) → record_bytes d r ++ left ≡ big_bytes 4 (length (body r)) ++ (body r ++ (next_digest d r ++ left))
regrouped d r left =
    append_assoc (big_bytes 4 (length (body r))) (body r ++ next_digest d r) left
    ∙ ap (λ (x : Bytes). big_bytes 4 (length (body r)) ++ x) (append_assoc (body r) (next_digest d r) left)

at_text : (v : Version) (d : Bytes) (r : Record) (left : Bytes) → Fits v r → At d r left (big_bytes 4 (length (body r)) ++ (body r ++ (next_digest d r ++ left)))
at_text v d r left fits =
    let n = length (body r) in
    let after = next_digest d r ++ left in
    let text = big_bytes 4 n ++ (body r ++ after) in
    let small : n < 256 ^ 4 = omega (arith, body_bound v r fits, greatest_small v) in
    let len : stated_length text ≡ n = big_number-reads_back 4 n (body r ++ after) small in
    let behind : drop 4 text ≡ body r ++ after = drop_at (big_bytes 4 n) (body r ++ after) 4 (length-bytes_high_first 4 n) in
    let chained : length (next_digest d r) ≡ 32 = length-sha256 (d ++ body r) in
    record {
      stated = len;
      said = ap (λ (k : ℕ). take k (drop 4 text)) len ∙ ap (take n) behind ∙ take_at (body r) after n refl;
      digest = ap (λ (k : ℕ). take 32 (drop k (drop 4 text))) len ∙ ap (λ (x : Bytes). take 32 (drop n x)) behind
          ∙ ap (take 32) (drop_at (body r) after n refl) ∙ take_at (next_digest d r) left 32 chained;
      size = omega (arith, length-append (big_bytes 4 n) (body r ++ after), length-bytes_high_first 4 n, length-append (body r) after, length-append (next_digest d r) left, chained);
    }

pub at : (v : Version) (d : Bytes) (r : Record) (left rest : Bytes) → Fits v r → rest ≡ record_bytes d r ++ left → At d r left rest
at v d r left rest fits e = subst (At d r left) (sym (e ∙ regrouped d r left)) (at_text v d r left fits)

-- two records at the front are one
same_record : (v : Version) (d : Bytes) (r t : Record) (x y : Bytes) → Fits v r → Fits v t → record_bytes d r ++ x ≡ record_bytes d t ++ y → (r ≡ t) × (x ≡ y)
same_record v d r t x y fits fits' e =
    let text = record_bytes d r ++ x in
    let a = at v d r x text fits refl in
    let b = at v d t y text fits' e in
    let same : r ≡ t = one_body v r t fits fits' (sym a.said ∙ b.said) in
    (same, append_cancel_left (record_bytes d r) x y (e ∙ ap (λ (z : Record). record_bytes d z ++ y) (sym same)))

-- no record of the version stands at the front, behind the digest d
pub Refuses : Version → Bytes → Bytes → Type 0
Refuses v d rest = (r : Record) (left : Bytes) → Fits v r → rest ≡ record_bytes d r ++ left → ⊥

clean_refuses : (v : Version) (d rest : Bytes) → rest ≡ [] → Refuses v d rest
unfolding Refuses
clean_refuses v d rest e r left fits text =
    let a = at v d r left rest fits text in
    absurd (omega (arith, a.size, ap length e))

torn_refuses : (v : Version) (d rest : Bytes) → IsTorn v rest → Refuses v d rest
unfolding Refuses
torn_refuses v d rest torn r left fits text =
    let a = at v d r left rest fits text in
    elim torn.1 [
      | inl short ↦ absurd (omega (arith, a.size, short))
      | inr lacks ↦ absurd (omega (arith, a.size, a.stated, lacks.1))
    ]

pub ends_refuses : (v : Version) (d rest : Bytes) (e : Ending) → Ends v rest e → Refuses v d rest
ends_refuses v d rest Clean h = clean_refuses v d rest h
ends_refuses v d rest Torn h = torn_refuses v d rest h

foreign_refuses : (v : Version) (d rest : Bytes) → IsForeign v d rest → Refuses v d rest
unfolding Refuses
foreign_refuses v d rest (inl none) r left fits text = none r fits (sym (at v d r left rest fits text).said)
foreign_refuses v d rest (inr another) r left fits text =
    let a = at v d r left rest fits text in
    another (a.digest ∙ ap (λ (b : Bytes). sha256 (d ++ b)) (sym a.said))

long_refuses : (v : Version) (d rest : Bytes) → greatest_body v < stated_length rest → Refuses v d rest
unfolding Refuses
long_refuses v d rest long r left fits text =
    let a = at v d r left rest fits text in
    absurd (omega (arith, a.stated, long, body_bound v r fits))

pub damage_refuses : (v : Version) (d : Bytes) (i : ℕ) (rest : Bytes) → IsDamage v d i rest → i < LOG_RECORDS → Refuses v d rest
damage_refuses v d i rest damage room =
    elim damage.1 [
      | inl long ↦ long_refuses v d rest long
      | inr whole ↦ elim whole.1 [
        | inl foreign ↦ foreign_refuses v d rest foreign
        | inr full ↦ absurd (omega (arith, full, room))
      ]
    ]

-- records that go on as far as they can are one list
pub one_chain : (v : Version) (cap : ℕ) (d : Bytes) (rs ts : List Record) (x y : Bytes) → AllByRecursion (Fits v) rs → AllByRecursion (Fits v) ts →
    length rs ≤ cap → length ts ≤ cap → (length rs < cap → Refuses v (digest_after d rs) x) → (length ts < cap → Refuses v (digest_after d ts) y) →
    records_bytes d rs ++ x ≡ records_bytes d ts ++ y → (rs ≡ ts) × (x ≡ y)
unfolding Refuses
one_chain v cap d [] [] x y fits fits' few few' stop stop' e = (refl, e)
one_chain v cap d [] (t ∷ ts) x y fits fits' few few' stop stop' e =
    absurd (stop (omega (arith, few')) t (records_bytes (next_digest d t) ts ++ y) fits'.0 (e ∙ append_assoc (record_bytes d t) (records_bytes (next_digest d t) ts) y))
one_chain v cap d (r ∷ rs) [] x y fits fits' few few' stop stop' e =
    absurd (stop' (omega (arith, few)) r (records_bytes (next_digest d r) rs ++ x) fits.0 (sym e ∙ append_assoc (record_bytes d r) (records_bytes (next_digest d r) rs) x))
one_chain v zero d (r ∷ rs) (t ∷ ts) x y fits fits' few few' stop stop' e = absurd (omega (arith, few))
one_chain v (suc cap) d (r ∷ rs) (t ∷ ts) x y fits fits' few few' stop stop' e =
    let left = records_bytes (next_digest d r) rs ++ x in
    let right = records_bytes (next_digest d t) ts ++ y in
    let split : record_bytes d r ++ left ≡ record_bytes d t ++ right =
    sym (append_assoc (record_bytes d r) (records_bytes (next_digest d r) rs) x) ∙ e ∙ append_assoc (record_bytes d t) (records_bytes (next_digest d t) ts) y in
    let one = same_record v d r t left right fits.0 fits'.0 split in
    let along : records_bytes (next_digest d r) rs ++ x ≡ records_bytes (next_digest d r) ts ++ y =
    one.1 ∙ ap (λ (z : Record). records_bytes (next_digest d z) ts ++ y) (sym one.0) in
    let stops : length ts < cap → Refuses v (digest_after (next_digest d r) ts) y =
    λ h. subst (λ (z : Record). Refuses v (digest_after (next_digest d z) ts) y) (sym one.0) (stop' (omega (arith, h))) in
    let others = one_chain v cap (next_digest d r) rs ts x y fits.1 fits'.1 (omega (arith, few)) (omega (arith, few')) (λ h. stop (omega (arith, h))) stops along in
    (ap (λ (z : Record). z ∷ rs) one.0 ∙ ap (λ (zs : List Record). t ∷ zs) others.0, others.1)

-- ---- headers

letters_length : (v : Version) → length (magic v) ≡ 8
letters_length One = refl
letters_length Two = refl

one_magic : (v w : Version) → magic v ≡ magic w → v ≡ w
one_magic One One e = refl
one_magic One Two e = absurd (omega (arith, ap (λ (x : Bytes). get_or x 7 0) e))
one_magic Two One e = absurd (omega (arith, ap (λ (x : Bytes). get_or x 7 0) e))
one_magic Two Two e = refl

header_length : (v : Version) (h : LogHeader) → IsHeader h → length (log_header_bytes v h) ≡ 72
header_length v h lengths =
    omega (arith, length-append (magic v) (h.catalog ++ h.opening), length-append h.catalog h.opening, letters_length v, lengths.catalog, lengths.opening)

one_header : (v w : Version) (h k : LogHeader) → IsHeader h → IsHeader k → log_header_bytes v h ≡ log_header_bytes w k → (v ≡ w) × (h ≡ k)
one_header v w h k lengths lengths' e =
    let letters = same_front (magic v) (magic w) (h.catalog ++ h.opening) (k.catalog ++ k.opening) (letters_length v ∙ sym (letters_length w)) e in
    let digests = same_front h.catalog k.catalog h.opening k.opening (lengths.catalog ∙ sym lengths'.catalog) letters.1 in
    (one_magic v w letters.0, λ i. record { catalog = digests.0 i; opening = digests.1 i })

-- ---- logs

-- nothing more is read after the records
abbrev pub Stops : Version → LogHeader → List Record → Bytes → Type 0
Stops v h rs rest = length rs < LOG_RECORDS → Refuses v (digest_after (first_digest v h) rs) rest

-- behind the header
behind : (v : Version) (h : LogHeader) (rs : List Record) (rest text : Bytes) → Begins v h rs rest text → text ≡ log_header_bytes v h ++ (records_bytes (first_digest v h) rs ++ rest)
behind v h rs rest text b = b.text ∙ append_assoc (log_header_bytes v h) (records_bytes (first_digest v h) rs) rest

pub record OneLog (v w : Version) (h k : LogHeader) (rs ts : List Record) (x y : Bytes) : Type 0 where
  pub version : v ≡ w
  pub header : h ≡ k
  pub records : rs ≡ ts
  pub rest : x ≡ y

same_header : (v : Version) (h : LogHeader) (rs ts : List Record) (x y text : Bytes) → Begins v h rs x text → Begins v h ts y text → Stops v h rs x → Stops v h ts y →
    OneLog v v h h rs ts x y
same_header v h rs ts x y text b b' stop stop' =
    let d = first_digest v h in
    let e = append_cancel_left (log_header_bytes v h) (records_bytes d rs ++ x) (records_bytes d ts ++ y) (sym (behind v h rs x text b) ∙ behind v h ts y text b') in
    let one = one_chain v LOG_RECORDS d rs ts x y b.records b'.records b.count b'.count stop stop' e in
    record { version = refl; header = refl; records = one.0; rest = one.1 }

one_log : (v w : Version) (h k : LogHeader) (rs ts : List Record) (x y text : Bytes) → Begins v h rs x text → Begins w k ts y text → Stops v h rs x → Stops w k ts y →
    OneLog v w h k rs ts x y
one_log v w h k rs ts x y text b b' stop stop' =
    let lengths = header_length v h b.header ∙ sym (header_length w k b'.header) in
    let split = same_front (log_header_bytes v h) (log_header_bytes w k) (records_bytes (first_digest v h) rs ++ x) (records_bytes (first_digest w k) ts ++ y) lengths
    (sym (behind v h rs x text b) ∙ behind w k ts y text b') in
    let same = one_header v w h k b.header b'.header split.0 in
    let c : Begins v h ts y text = subst (λ (u : Version). Begins u h ts y text) (sym same.0) (subst (λ (l : LogHeader). Begins w l ts y text) (sym same.1) b') in
    let stops : Stops v h ts y = subst (λ (u : Version). Stops u h ts y) (sym same.0) (subst (λ (l : LogHeader). Stops w l ts y) (sym same.1) stop') in
    let one = same_header v h rs ts x y text b c stop stops in
    record { version = same.0; header = same.1; records = one.records; rest = one.rest }

-- ---- readings

one_ending : (v : Version) (rest : Bytes) (e f : Ending) → Ends v rest e → Ends v rest f → e ≡ f
one_ending v rest Clean Clean h k = refl
one_ending v rest Clean Torn h k = absurd (omega (arith, ap length h, k.0))
one_ending v rest Torn Clean h k = absurd (omega (arith, ap length k, h.0))
one_ending v rest Torn Torn h k = refl

end_no_damage : (v : Version) (d : Bytes) (i : ℕ) (rest : Bytes) (e : Ending) → Ends v rest e → IsDamage v d i rest → ⊥
end_no_damage v d i rest Clean h damage = absurd (omega (arith, ap length h, damage.0))
end_no_damage v d i rest Torn h damage =
    elim h.1 [
      | inl short ↦ absurd (omega (arith, short, damage.0))
      | inr lacks ↦ elim damage.1 [
        | inl long ↦ absurd (omega (arith, lacks.0, long))
        | inr whole ↦ absurd (omega (arith, lacks.1, whole.0))
      ]
    ]

pub no_log : (v : Version) (h : LogHeader) (rs : List Record) (rest text : Bytes) → Begins v h rs rest text → IsReading text NotALog → ⊥
no_log v h rs rest text b none =
    let e = behind v h rs rest text b in
    let after = records_bytes (first_digest v h) rs ++ rest in
    elim none [
      | inl short ↦ absurd (omega (arith, ap length e, length-append (log_header_bytes v h) after, header_length v h b.header, short))
      | inr other ↦ other v (ap (take 8) (e ∙ append_assoc (magic v) (h.catalog ++ h.opening) after) ∙ take_at (magic v) ((h.catalog ++ h.opening) ++ after) 8 (letters_length v))
    ]

same_log : (v w : Version) (h k : LogHeader) (rs ts : List Record) (x y : Bytes) (e f : Ending) → OneLog v w h k rs ts x y → Ends v x e → Ends w y f → Log v h rs e ≡ Log w k ts f
same_log v w h k rs ts x y e f one ends ends' =
    let moved : Ends v x f = subst (λ (u : Version). Ends u x f) (sym one.version) (subst (λ (z : Bytes). Ends w z f) (sym one.rest) ends') in
    let last = one_ending v x e f ends moved in
    λ i. Log (one.version i) (one.header i) (one.records i) (last i)

log_or_damaged : (text : Bytes) (v : Version) (h : LogHeader) (rs : List Record) (e : Ending) (i : ℕ) → IsReading text (Log v h rs e) → IsReading text (Damaged i) → ⊥
log_or_damaged text v h rs e i a b =
    let w = b.0 in
    let d = digest_after (first_digest w b.1) b.2 in
    let stop : Stops v h rs a.0 = λ _. ends_refuses v (digest_after (first_digest v h) rs) a.0 e a.2 in
    let stop' : Stops w b.1 b.2 b.3 = λ room. damage_refuses w d i b.3 b.6 (omega (arith, room, b.5)) in
    let one = one_log v w h b.1 rs b.2 a.0 b.3 text a.1 b.4 stop stop' in
    let moved : Ends w b.3 e = subst (λ (u : Version). Ends u b.3 e) one.version (subst (λ (z : Bytes). Ends v z e) one.rest a.2) in
    end_no_damage w d i b.3 e moved b.6

pub one_reading : OneReading
one_reading text (Log v h rs e) (Log w k ts f) a b =
    let stop : Stops v h rs a.0 = λ _. ends_refuses v (digest_after (first_digest v h) rs) a.0 e a.2 in
    let stop' : Stops w k ts b.0 = λ _. ends_refuses w (digest_after (first_digest w k) ts) b.0 f b.2 in
    same_log v w h k rs ts a.0 b.0 e f (one_log v w h k rs ts a.0 b.0 text a.1 b.1 stop stop') a.2 b.2
one_reading text (Log v h rs e) NotALog a b = absurd (no_log v h rs a.0 text a.1 b)
one_reading text (Log v h rs e) (Damaged i) a b = absurd (log_or_damaged text v h rs e i a b)
one_reading text NotALog (Log v h rs e) a b = absurd (no_log v h rs b.0 text b.1 a)
one_reading text NotALog NotALog a b = refl
one_reading text NotALog (Damaged i) a b = absurd (no_log b.0 b.1 b.2 b.3 text b.4 a)
one_reading text (Damaged i) (Log v h rs e) a b = absurd (log_or_damaged text v h rs e i b a)
one_reading text (Damaged i) NotALog a b = absurd (no_log a.0 a.1 a.2 a.3 text a.4 b)
one_reading text (Damaged i) (Damaged j) a b =
    let stop : Stops a.0 a.1 a.2 a.3 = λ room. damage_refuses a.0 (digest_after (first_digest a.0 a.1) a.2) i a.3 a.6 (omega (arith, room, a.5)) in
    let stop' : Stops b.0 b.1 b.2 b.3 = λ room. damage_refuses b.0 (digest_after (first_digest b.0 b.1) b.2) j b.3 b.6 (omega (arith, room, b.5)) in
    let one = one_log a.0 b.0 a.1 b.1 a.2 b.2 a.3 b.3 text a.4 b.4 stop stop' in
    ap (λ (n : ℕ). Damaged n) (sym a.5 ∙ ap length one.records ∙ b.5)

pub read_again : IsReadAgain
read_again v h rs lengths fits few =
    ([], record { header = lengths; text = sym (append-nil (log_bytes v h rs)); records = fits; count = few }, refl)
