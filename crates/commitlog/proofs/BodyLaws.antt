-- What is read of a body is spelled so, and what is spelled so is read; how long a body is.
use Rattle.std.proofs.Common.{◌≡◌, ℕ, zero, suc, ◌+◌, ◌*◌, ◌^◌, ◌<◌, ◌≤◌, cond, eqb, List, [], ◌∷◌, ◌++◌, length, Option, Some, None, sym, ap, subst, ◌∙◌, arith}
use Rattle.std.specs.List.{flat_map, AllByRecursion}
use Rattle.std.proofs.lemmas.List.{append-nil, length-append}
use Rattle.std.proofs.lemmas.List.Concat.{flat_map-cons}
use Rattle.byteorder.specs.Endian.{big_bytes}
use Rattle.procedure.specs.Bytes.{Bytes, Cell}
use Rattle.phase.specs.declared.phases.Phase.{Phase}
use Rattle.commitlog.specs.Records.{Record, Token, Call}
use Rattle.commitlog.specs.declared.formats.Version.{Version}
use Rattle.commitlog.specs.declared.formats.Version.TheVariants.{One, Two}
use Rattle.commitlog.specs.LogBytes.{greatest_value, greatest_body, phase_code, value_bytes, reply_bytes, call_head, arguments_bytes, answer_bytes, body, IsValue, IsReply, IsCall, IsWithin, Fits}
use Rattle.commitlog.specs.BodyReading.{◌>>=◌, byte_in, number_in, value_in, reply_in, many, arguments_in, replies_in, phase_in, token_in, call_in, record_in}
use Rattle.procedure.proofs.TakenBytes.{IsBytes, Takes, Takes-then, back_2, back_8}
use Rattle.commitlog.proofs.Fields.{bind_some, some_is, number_takes, number_again, byte_takes, value_takes, value_again, IsCellUpTo, reply_takes, reply_again, many_takes, many_again, phase_takes, phase_again, nothing_left}

greatest_fits : (v : Version) → greatest_value v < 65536
greatest_fits One = omega arith
greatest_fits Two = omega arith

as_reply : (v : Version) (o : Cell) → IsCellUpTo (greatest_value v) o → IsReply v o
as_reply v None h = tt
as_reply v (Some b) h = h

as_cell : (v : Version) (o : Cell) → IsReply v o → IsCellUpTo (greatest_value v) o
as_cell v None h = tt
as_cell v (Some b) h = h

-- ---- the steps of reading a call

abbrev after_replies : ℕ → ℕ → ℕ → List Bytes → ℕ → List Cell × Bytes → Option Record
after_replies s n p args o = λ r. cond (eqb (length r.1) 0) (Some (Call s n p args o r.0)) None

abbrev after_outcome : ℕ → ℕ → ℕ → ℕ → List Bytes → ℕ × Bytes → Option Record
after_outcome most s n p args = λ o. replies_in most o.1 >>= after_replies s n p args o.0

abbrev after_arguments : ℕ → ℕ → ℕ → ℕ → List Bytes × Bytes → Option Record
after_arguments most s n p = λ args. byte_in args.1 >>= after_outcome most s n p args.0

abbrev after_procedure : ℕ → ℕ → ℕ → ℕ × Bytes → Option Record
after_procedure most s n = λ p. arguments_in most p.1 >>= after_arguments most s n p.0

abbrev after_number : ℕ → ℕ → ℕ × Bytes → Option Record
after_number most s = λ n. number_in 2 n.1 >>= after_procedure most s n.0

abbrev after_session : ℕ → ℕ × Bytes → Option Record
after_session most = λ s. number_in 8 s.1 >>= after_number most s.0

-- ---- what is read

arguments_takes : (v : Version) (bytes : Bytes) (x : List Bytes × Bytes) → IsBytes bytes → arguments_in (greatest_value v) bytes ≡ Some x →
    Takes bytes (arguments_bytes x.0) x.1 × AllByRecursion (IsValue v) x.0
unfolding arguments_in
arguments_takes v bytes x fits e =
    let most = greatest_value v in
    let a = bind_some (byte_in bytes) (λ n. many (value_in most) n.0 n.1) x e in
    let t = byte_takes bytes a.0 fits a.1 in
    let u = many_takes (value_in most) value_bytes (IsValue v) (λ b y f g. value_takes most b y f g) a.0.0 a.0.1 x t.0.rest_fits a.2 in
    let both = Takes-then bytes (a.0.0 ∷ []) a.0.1 (flat_map value_bytes x.0) x.1 t.0 u.0 in
    (subst (λ (k : ℕ). Takes bytes ((k ∷ []) ++ flat_map value_bytes x.0) x.1) (sym u.2) both, u.1)

replies_takes : (v : Version) (bytes : Bytes) (x : List Cell × Bytes) → IsBytes bytes → replies_in (greatest_value v) bytes ≡ Some x →
    Takes bytes ((length x.0 ∷ []) ++ flat_map reply_bytes x.0) x.1 × AllByRecursion (IsReply v) x.0
unfolding replies_in
replies_takes v bytes x fits e =
    let most = greatest_value v in
    let a = bind_some (byte_in bytes) (λ n. many (reply_in most) n.0 n.1) x e in
    let t = byte_takes bytes a.0 fits a.1 in
    let one : (b : Bytes) (y : Cell × Bytes) → IsBytes b → reply_in most b ≡ Some y → Takes b (reply_bytes y.0) y.1 × IsReply v y.0 =
    λ b y f g. let w = reply_takes most b y f g in (w.0, as_reply v y.0 w.1) in
    let u = many_takes (reply_in most) reply_bytes (IsReply v) one a.0.0 a.0.1 x t.0.rest_fits a.2 in
    let both = Takes-then bytes (a.0.0 ∷ []) a.0.1 (flat_map reply_bytes x.0) x.1 t.0 u.0 in
    (subst (λ (k : ℕ). Takes bytes ((k ∷ []) ++ flat_map reply_bytes x.0) x.1) (sym u.2) both, u.1)

-- behind one byte
behind : (b : ℕ) (x y : Bytes) → x ≡ y → b ∷ x ≡ b ∷ y
behind b x y e = ap (λ (t : Bytes). b ∷ t) e

-- nothing but the text
whole : (bytes text rest : Bytes) → Takes bytes text rest → rest ≡ [] → text ≡ bytes
whole bytes text rest t e = sym (t.parts ∙ ap (λ (x : Bytes). text ++ x) e ∙ append-nil text)

call_takes : (v : Version) (bytes : Bytes) (r : Record) → IsBytes bytes → call_in (greatest_value v) bytes ≡ Some r → (body r ≡ 1 ∷ bytes) × IsWithin v r
unfolding call_in
call_takes v bytes rec fits e =
    let most = greatest_value v in
    let s = bind_some (number_in 2 bytes) (after_session most) rec e in
    let n = bind_some (number_in 8 s.0.1) (after_number most s.0.0) rec s.2 in
    let p = bind_some (number_in 2 n.0.1) (after_procedure most s.0.0 n.0.0) rec n.2 in
    let a = bind_some (arguments_in most p.0.1) (after_arguments most s.0.0 n.0.0 p.0.0) rec p.2 in
    let o = bind_some (byte_in a.0.1) (after_outcome most s.0.0 n.0.0 p.0.0 a.0.0) rec a.2 in
    let r = bind_some (replies_in most o.0.1) (after_replies s.0.0 n.0.0 p.0.0 a.0.0 o.0.0) rec o.2 in
    let t0 = number_takes 2 back_2 bytes s.0 fits s.1 in
    let t1 = number_takes 8 back_8 s.0.1 n.0 t0.0.rest_fits n.1 in
    let t2 = number_takes 2 back_2 n.0.1 p.0 t1.0.rest_fits p.1 in
    let t3 = arguments_takes v p.0.1 a.0 t2.0.rest_fits a.1 in
    let t4 = byte_takes a.0.1 o.0 t3.0.rest_fits o.1 in
    let t5 = replies_takes v o.0.1 r.0 t4.0.rest_fits r.1 in
    let end = nothing_left r.0.1 (Call s.0.0 n.0.0 p.0.0 a.0.0 o.0.0 r.0.0) rec r.2 in
    let replies_text = (length r.0.0 ∷ []) ++ flat_map reply_bytes r.0.0 in
    let e45 = Takes-then a.0.1 (o.0.0 ∷ []) o.0.1 replies_text r.0.1 t4.0 t5.0 in
    let e35 = Takes-then p.0.1 (arguments_bytes a.0.0) a.0.1 (answer_bytes o.0.0 r.0.0) r.0.1 t3.0 e45 in
    let e12 = Takes-then s.0.1 (big_bytes 8 n.0.0) n.0.1 (big_bytes 2 p.0.0) p.0.1 t1.0 t2.0 in
    let e02 = Takes-then bytes (big_bytes 2 s.0.0) s.0.1 (big_bytes 8 n.0.0 ++ big_bytes 2 p.0.0) p.0.1 t0.0 e12 in
    let e05 = Takes-then bytes (call_head s.0.0 n.0.0 p.0.0) p.0.1 (arguments_bytes a.0.0 ++ answer_bytes o.0.0 r.0.0) r.0.1 e02 e35 in
    let text = whole bytes (call_head s.0.0 n.0.0 p.0.0 ++ (arguments_bytes a.0.0 ++ answer_bytes o.0.0 r.0.0)) r.0.1 e05 end.0 in
    let within : IsCall v n.0.0 a.0.0 o.0.0 r.0.0 = record { number = t1.1; outcome = t4.1; arguments = t3.1; replies = t5.1 } in
    subst (λ (x : Record). (body x ≡ 1 ∷ bytes) × IsWithin v x) end.1 (behind 1 (call_head s.0.0 n.0.0 p.0.0 ++ (arguments_bytes a.0.0 ++ answer_bytes o.0.0 r.0.0)) bytes text, within)

after_phase : Phase → ℕ × Bytes → Option Record
after_phase p = λ n. cond (eqb (length n.1) 0) (Some (Token p n.0)) None

token_takes : (v : Version) (bytes : Bytes) (r : Record) → IsBytes bytes → token_in bytes ≡ Some r → (body r ≡ 0 ∷ bytes) × IsWithin v r
unfolding token_in after_phase
token_takes v bytes rec fits e =
    let c = bind_some (byte_in bytes) (λ code. phase_in code.0 >>= λ p. number_in 8 code.1 >>= after_phase p) rec e in
    let p = bind_some (phase_in c.0.0) (λ p. number_in 8 c.0.1 >>= after_phase p) rec c.2 in
    let n = bind_some (number_in 8 c.0.1) (after_phase p.0) rec p.2 in
    let t0 = byte_takes bytes c.0 fits c.1 in
    let t1 = number_takes 8 back_8 c.0.1 n.0 t0.0.rest_fits n.1 in
    let end = nothing_left n.0.1 (Token p.0 n.0.0) rec n.2 in
    let both = Takes-then bytes (c.0.0 ∷ []) c.0.1 (big_bytes 8 n.0.0) n.0.1 t0.0 t1.0 in
    let coded : Takes bytes ((phase_code p.0 ∷ []) ++ big_bytes 8 n.0.0) n.0.1 =
    subst (λ (k : ℕ). Takes bytes ((k ∷ []) ++ big_bytes 8 n.0.0) n.0.1) (sym (phase_takes c.0.0 p.0 p.1)) both in
    let text = whole bytes ((phase_code p.0 ∷ []) ++ big_bytes 8 n.0.0) n.0.1 coded end.0 in
    subst (λ (x : Record). (body x ≡ 0 ∷ bytes) × IsWithin v x) end.1 (behind 0 ((phase_code p.0 ∷ []) ++ big_bytes 8 n.0.0) bytes text, t1.1)

fits_after : (b : ℕ) (bytes : Bytes) → IsBytes (b ∷ bytes) → IsBytes bytes
fits_after b bytes h i = h (suc i)

-- what is read of a text is spelled so, all of it
pub record_takes : (v : Version) (bytes : Bytes) (r : Record) → IsBytes bytes → record_in (greatest_value v) bytes ≡ Some r → (body r ≡ bytes) × IsWithin v r
unfolding record_in
record_takes v [] r fits e = absurd cc
record_takes v (zero ∷ rest) r fits e = token_takes v rest r (fits_after 0 rest fits) e
record_takes v (suc zero ∷ rest) r fits e = call_takes v rest r (fits_after 1 rest fits) e
record_takes v (suc (suc b) ∷ rest) r fits e = absurd cc

-- ---- what is spelled

bind_is : {A B : Type 0} (r : Option A) (f : A → Option B) (x : A) → r ≡ Some x → (r >>= f) ≡ f x
bind_is r f x e = ap (λ o. o >>= f) e

arguments_again : (v : Version) (args : List Bytes) (rest : Bytes) → AllByRecursion (IsValue v) args → arguments_in (greatest_value v) (arguments_bytes args ++ rest) ≡ Some (args, rest)
unfolding arguments_in
arguments_again v args rest fits =
    many_again (value_in (greatest_value v)) value_bytes (IsValue v) (λ x r h. value_again (greatest_value v) x r (greatest_fits v) h) args rest fits

replies_again : (v : Version) (r : List Cell) → AllByRecursion (IsReply v) r → replies_in (greatest_value v) (length r ∷ flat_map reply_bytes r) ≡ Some (r, [])
unfolding replies_in
replies_again v r fits =
    ap (λ (b : Bytes). many (reply_in (greatest_value v)) (length r) b) (sym (append-nil (flat_map reply_bytes r)))
    ∙ many_again (reply_in (greatest_value v)) reply_bytes (IsReply v) (λ x rest h. reply_again (greatest_value v) x rest (greatest_fits v) (as_cell v x h)) r [] fits

call_again : (v : Version) (s n p : ℕ) (args : List Bytes) (o : ℕ) (r : List Cell) → s < 65536 → p < 65536 → IsCall v n args o r →
    call_in (greatest_value v) (call_head s n p ++ (arguments_bytes args ++ answer_bytes o r)) ≡ Some (Call s n p args o r)
unfolding call_in
call_again v s n p args o r s_fits p_fits within =
    let most = greatest_value v in
    let parts = arguments_bytes args ++ answer_bytes o r in
    let after_two = big_bytes 2 p ++ parts in
    let after_one = big_bytes 8 n ++ after_two in
    bind_is (number_in 2 (big_bytes 2 s ++ after_one)) (after_session most) (s, after_one) (number_again 2 s after_one s_fits)
    ∙ bind_is (number_in 8 after_one) (after_number most s) (n, after_two) (number_again 8 n after_two within.number)
    ∙ bind_is (number_in 2 after_two) (after_procedure most s n) (p, parts) (number_again 2 p parts p_fits)
    ∙ bind_is (arguments_in most parts) (after_arguments most s n p) (args, answer_bytes o r) (arguments_again v args (answer_bytes o r) within.arguments)
    ∙ bind_is (replies_in most (length r ∷ flat_map reply_bytes r)) (after_replies s n p args o) (r, []) (replies_again v r within.replies)

token_again : (p : Phase) (n : ℕ) → n < 256 ^ 8 → token_in (phase_code p ∷ big_bytes 8 n) ≡ Some (Token p n)
unfolding token_in after_phase
token_again p n fits =
    let number : number_in 8 (big_bytes 8 n) ≡ Some (n, []) = ap (number_in 8) (sym (append-nil (big_bytes 8 n))) ∙ number_again 8 n [] fits in
    bind_is (phase_in (phase_code p)) (λ q. number_in 8 (big_bytes 8 n) >>= after_phase q) p (phase_again p)
    ∙ bind_is (number_in 8 (big_bytes 8 n)) (after_phase p) (n, []) number

-- what is spelled is read
pub record_again : (v : Version) (r : Record) → Fits v r → record_in (greatest_value v) (body r) ≡ Some r
unfolding record_in
record_again v (Token p n) fits = token_again p n fits.1
record_again v (Call s n p args o r) fits =
    let session : s < 65536 = omega (arith, fits.0.0) in
    let procedure : p < 65536 = omega (arith, fits.0.1) in
    call_again v s n p args o r session procedure fits.1

-- two bodies that are one are of one record
pub one_body : (v : Version) (r s : Record) → Fits v r → Fits v s → body r ≡ body s → r ≡ s
one_body v r s fits fits' e = some_is r s (sym (record_again v r fits) ∙ ap (record_in (greatest_value v)) e ∙ record_again v s fits')

-- ---- lengths

-- what is spelled one after another, where each is of so many bytes at most
all_bound : {X : Type 0} (f : X → Bytes) (P : X → Type 0) (most : ℕ) → ((x : X) → P x → length (f x) ≤ most) → (xs : List X) → AllByRecursion P xs → length (flat_map f xs) ≤ length xs * most
all_bound f P most small [] fits = omega arith
all_bound f P most small (x ∷ xs) fits =
    let h = all_bound f P most small xs fits.1 in
    let here = small x fits.0 in
    let e : length (flat_map f (x ∷ xs)) ≡ length (f x) + length (flat_map f xs) = ap length (flat_map-cons f x xs) ∙ length-append (f x) (flat_map f xs) in
    rw e (grind (arith, h, here))

values_bound : (v : Version) (xs : List Bytes) → AllByRecursion (IsValue v) xs → length (flat_map value_bytes xs) ≤ length xs * (greatest_value v + 2)
values_bound v xs fits = all_bound value_bytes (IsValue v) (greatest_value v + 2) (λ x small. omega (arith, small)) xs fits

reply_bound : (v : Version) (o : Cell) → IsReply v o → length (reply_bytes o) ≤ greatest_value v + 3
reply_bound v None h = omega arith
reply_bound v (Some b) h = omega (arith, h)

replies_bound : (v : Version) (xs : List Cell) → AllByRecursion (IsReply v) xs → length (flat_map reply_bytes xs) ≤ length xs * (greatest_value v + 3)
replies_bound v xs fits = all_bound reply_bytes (IsReply v) (greatest_value v + 3) (reply_bound v) xs fits

call_bound : (v : Version) (args : List Bytes) (r : List Cell) → length args ≤ 8 → length r ≤ 64 → AllByRecursion (IsValue v) args → AllByRecursion (IsReply v) r →
    16 + length (flat_map value_bytes args) + length (flat_map reply_bytes r) ≤ greatest_body v
call_bound One args r a b fits fits' = omega (arith, values_bound One args fits, replies_bound One r fits')
call_bound Two args r a b fits fits' = omega (arith, values_bound Two args fits, replies_bound Two r fits')

call_length : (s n p : ℕ) (args : List Bytes) (o : ℕ) (r : List Cell) →
    length (body (Call s n p args o r)) ≡ 16 + length (flat_map value_bytes args) + length (flat_map reply_bytes r)
call_length s n p args o r = omega (arith, length-append (flat_map value_bytes args) (answer_bytes o r))

-- no body is longer than those of its version
pub body_bound : (v : Version) (r : Record) → Fits v r → length (body r) ≤ greatest_body v
body_bound One (Token p n) fits = omega arith
body_bound Two (Token p n) fits = omega arith
body_bound v (Call s n p args o r) fits =
    rw (call_length s n p args o r) (call_bound v args r fits.0.2 fits.0.4 fits.1.arguments fits.1.replies)
