-- What bytes spell is formed: registers, memory and numbers are in range, and stand where their instruction has them.
use Rattle.std.proofs.Common.{◌≡◌, ◌≢◌, ℕ, zero, suc, ◌+◌, ◌-◌, ◌*◌, ◌/◌, ◌%◌, ◌^◌, ◌<◌, Bool, true, false, not, ◌&&◌, ◌==◌, nat_le, nat_lt, if◌then◌else◌, List, [], ◌∷◌, drop, get_or, Option, Some, None, is_some, IfSome, inl, inr, refl, arith}
use Rattle.std.specs.Prelude.{ℤ, pos, neg_ℤ, ◌-ℤ◌, ◌≤ℤ◌, ◌<ℤ◌}
use Rattle.std.specs.List.{AllByRecursion}
use Rattle.std.proofs.lemmas.Int.{ints}
use Rattle.std.proofs.lemmas.Bool.Decides.{nat_tests}
use Rattle.std.proofs.lemmas.Bool.{and_parts, cases_Bool, eqb-true, eqb-false}
use Rattle.x64_syntax.specs.declared.operand.Operand.TheVariants as operand
use Rattle.x64_syntax.specs.declared.operand.Reg.{Reg}
use Rattle.x64_syntax.specs.declared.operand.Width.{Width}
use Rattle.x64_syntax.specs.declared.operand.Width.TheVariants as width
use Rattle.x64_syntax.specs.Formed.{IsMemory, IsRegister, IsStored}
use Rattle.x64_syntax.specs.Operands.{bits, is_in_memory}
use Rattle.x64_decode.specs.declared.row.Code.{Code}
use Rattle.x64_decode.specs.declared.row.Code.TheVariants.{One, Two, Three, Four}
use Rattle.x64_decode.specs.declared.row.Front.{Front}
use Rattle.x64_decode.specs.declared.row.Size.{Size}
use Rattle.x64_decode.specs.declared.row.Size.TheVariants as size
use Rattle.x64_decode.specs.Bytes.{IsByte, eight_bytes, extend, four_bytes, signed_byte, signed_long, two_bytes}
use Rattle.x64_decode.specs.Fronts.{operand_width, rex_bit, width_of}
use Rattle.x64_decode.specs.Operands.{base_of, displacement, displacement_size, full_number, has_sib, index_of, is_byte, is_memory, is_rip, lacks_base, low_bits, memory_of, register, rm_operand, scale_of, sib_size, whole_number}

-- ---- registers

pub rex_bit-small : (worth : ℕ) (rex : Option ℕ) → rex_bit worth rex < 2
rex_bit-small worth None = omega arith
rex_bit-small worth (Some b) = omega arith

-- a register of a size, behind REX or none
abbrev pub reg_of : Size → Option ℕ → ℕ → Reg
reg_of s rex n =
    if is_byte s && (not (is_some rex) && nat_le 4 n) then record { number = n - 4; high = true }
    else record { number = n; high = false }

and-false : (b : Bool) → (b && false) ≡ false
and-false true = refl
and-false false = refl

plain_register : (w : Width) (n : ℕ) → n < 16 → IsRegister w (record { number = n; high = false })
plain_register w n h = record { number = h; high = λ e. absurd (cc) }

reg_of-formed : (w : Width) (s : Size) (rex : Option ℕ) (low worth : ℕ) → (is_byte s ≡ true → w ≡ width.Byte) → low < 8 →
    IsRegister w (reg_of s rex (low + 8 * rex_bit worth rex))
reg_of-formed w s (Some b) low worth e small =
    let bit : rex_bit worth (Some b) < 2 = rex_bit-small worth (Some b) in
    rw (and-false (is_byte s)) (plain_register w (low + 8 * rex_bit worth (Some b)) (omega arith))
reg_of-formed w s None low worth e small =
    let n = low + 8 * rex_bit worth None in
    elim (cases_Bool (is_byte s && nat_le 4 n)) [
      | inl holds ↦
          (let parts = and_parts (is_byte s) (nat_le 4 n) holds in
          rw holds (record { number = omega arith; high = λ h. (e parts.0, omega arith) }))
      | inr fails ↦ rw fails (plain_register w n (omega arith))
    ]

byte_width : (f : Front) (s : Size) → is_byte s ≡ true → width_of f s ≡ width.Byte
byte_width f size.Byte e = refl
byte_width f size.Word e = absurd (cc)
byte_width f size.Long e = absurd (cc)
byte_width f size.Quad e = absurd (cc)
byte_width f size.Operand e = absurd (cc)

pub register-formed : (f : Front) (s : Size) (low worth : ℕ) → low < 8 →
    IsRegister (width_of f s) (register f s (low + 8 * rex_bit worth f.rex))
unfolding register
register-formed f s low worth small = reg_of-formed (width_of f s) s f.rex low worth (byte_width f s) small

pub low_bits-small : (c : Code) → low_bits c < 8
low_bits-small (One a) = omega arith
low_bits-small (Two a b) = omega arith
low_bits-small (Three a b c) = omega arith
low_bits-small (Four a b c d) = omega arith

-- ---- bytes and numbers

pub byte_at : (xs : List ℕ) (i : ℕ) → AllByRecursion IsByte xs → get_or xs i 0 < 256
byte_at [] i h = omega arith
byte_at (x ∷ xs) zero h = h.0
byte_at (x ∷ xs) (suc i) h = byte_at xs i h.1

pub bytes_after : (n : ℕ) (xs : List ℕ) → AllByRecursion IsByte xs → AllByRecursion IsByte (drop n xs)
bytes_after zero xs h = h
bytes_after (suc n) [] h = tt
bytes_after (suc n) (x ∷ xs) h = bytes_after n xs h.1

two_bytes-small : (xs : List ℕ) → AllByRecursion IsByte xs → two_bytes xs < 65536
unfolding two_bytes
two_bytes-small xs h =
    let a : get_or xs 0 0 < 256 = byte_at xs 0 h in
    let b : get_or xs 1 0 < 256 = byte_at xs 1 h in omega arith

four_bytes-small : (xs : List ℕ) → AllByRecursion IsByte xs → four_bytes xs < 4294967296
unfolding four_bytes
four_bytes-small xs h =
    let a : two_bytes xs < 65536 = two_bytes-small xs h in
    let b : two_bytes (drop 2 xs) < 65536 = two_bytes-small (drop 2 xs) (bytes_after 2 xs h) in omega arith

eight_bytes-small : (xs : List ℕ) → AllByRecursion IsByte xs → eight_bytes xs < 18446744073709551616
unfolding eight_bytes
eight_bytes-small xs h =
    let a : four_bytes xs < 4294967296 = four_bytes-small xs h in
    let b : four_bytes (drop 4 xs) < 4294967296 = four_bytes-small (drop 4 xs) (bytes_after 4 xs h) in omega arith

small_byte : (w : Width) (n : ℕ) → n < 256 → n < 2 ^ bits w
small_byte width.Byte n h = omega arith
small_byte width.Word n h = omega arith
small_byte width.Long n h = omega arith
small_byte width.Quad n h = omega arith

high_byte : (w : Width) (n : ℕ) → n < 256 → n + (2 ^ bits w - 2 ^ bits width.Byte) < 2 ^ bits w
high_byte width.Byte n h = omega arith
high_byte width.Word n h = omega arith
high_byte width.Long n h = omega arith
high_byte width.Quad n h = omega arith

-- an extended byte fits every width
pub extend_byte-small : (w : Width) (n : ℕ) → n < 256 → extend width.Byte w n < 2 ^ bits w
extend_byte-small w n h =
    elim (cases_Bool (nat_lt n 128)) [
      | inl holds ↦ (rw holds (small_byte w n h))
      | inr fails ↦ (rw fails (high_byte w n h))
    ]

pub full_number-small : (w : Width) (xs : List ℕ) → w ≢ width.Byte → AllByRecursion IsByte xs → full_number w xs < 2 ^ bits w
full_number-small width.Byte xs h k = absurd (h refl)
full_number-small width.Word xs h k = let small : two_bytes xs < 65536 = two_bytes-small xs k in omega arith
full_number-small width.Long xs h k =
    let small : four_bytes xs < 4294967296 = four_bytes-small xs k in
    elim (nat_lt (four_bytes xs) (2 ^ (bits width.Long - 1))) as (λ b. (if b then four_bytes xs else four_bytes xs + (2 ^ bits width.Long - 2 ^ bits width.Long)) < 2 ^ bits width.Long)
    [ true ↦ omega arith | false ↦ omega arith ]
full_number-small width.Quad xs h k =
    let small : four_bytes xs < 4294967296 = four_bytes-small xs k in
    elim (nat_lt (four_bytes xs) (2 ^ (bits width.Long - 1))) as (λ b. (if b then four_bytes xs else four_bytes xs + (2 ^ bits width.Quad - 2 ^ bits width.Long)) < 2 ^ bits width.Quad)
    [ true ↦ omega arith | false ↦ omega arith ]

pub whole_number-small : (w : Width) (xs : List ℕ) → AllByRecursion IsByte xs → whole_number w xs < 2 ^ bits w
whole_number-small width.Byte xs h = let small : get_or xs 0 0 < 256 = byte_at xs 0 h in omega arith
whole_number-small width.Word xs h = let small : two_bytes xs < 65536 = two_bytes-small xs h in omega arith
whole_number-small width.Long xs h = let small : four_bytes xs < 4294967296 = four_bytes-small xs h in omega arith
whole_number-small width.Quad xs h = let small : eight_bytes xs < 18446744073709551616 = eight_bytes-small xs h in omega arith

-- ---- memory

number_or_none : (b : Bool) (n : ℕ) → n < 16 → IfSome (if b then None else Some n) (λ m. m < 16)
number_or_none true n h = tt
number_or_none false n h = h

base_of-formed : (f : Front) (m s : ℕ) → IfSome (base_of f m s) (λ n. n < 16)
unfolding base_of
base_of-formed f m s =
    let bit : rex_bit 1 f.rex < 2 = rex_bit-small 1 f.rex in
    elim (has_sib m) as (λ b. IfSome (if b then (if lacks_base m s then None else Some (s % 8 + 8 * rex_bit 1 f.rex)) else (if is_rip m then None else Some (m % 8 + 8 * rex_bit 1 f.rex))) (λ n. n < 16)) [
      | true ↦ number_or_none (lacks_base m s) (s % 8 + 8 * rex_bit 1 f.rex) (omega arith)
      | false ↦ number_or_none (is_rip m) (m % 8 + 8 * rex_bit 1 f.rex) (omega arith)
    ]

-- a relative address has no SIB byte
relative_plain : (m : ℕ) → is_rip m ≡ true → has_sib m ≡ false
unfolding is_rip has_sib
relative_plain m e =
    let five : m % 8 ≡ 5 = eqb-true (m % 8) 5 (and_parts (m / 64 == 0) (m % 8 == 5) e).1 in
    rw five (and-false (is_memory m))

base_of-relative : (f : Front) (m s : ℕ) → is_rip m ≡ true → base_of f m s ≡ None
unfolding base_of
base_of-relative f m s e = rw (relative_plain m e, e) refl

index_of-formed : (f : Front) (s : ℕ) → IfSome (index_of f s) (λ n. (n < 16) × (n ≢ 4))
unfolding index_of
index_of-formed f s =
    let n = s / 8 % 8 + 8 * rex_bit 2 f.rex in
    let bit : rex_bit 2 f.rex < 2 = rex_bit-small 2 f.rex in
    elim (cases_Bool (n == 4)) [
      | inl holds ↦ rw holds tt
      | inr fails ↦ rw fails (omega arith, eqb-false n 4 fails)
    ]

scale_of-formed : (f : Front) (s : ℕ) → s < 256 → (k : ℕ) × (k < 4) × (scale_of f s ≡ 2 ^ k)
unfolding scale_of
scale_of-formed f s h =
    elim (is_some (index_of f s)) as (λ b. (k : ℕ) × (k < 4) × ((if b then 2 ^ (s / 64) else 1) ≡ 2 ^ k))
    [ true ↦ (s / 64, omega arith, refl) | false ↦ (0, omega arith, refl) ]

scale_of-unscaled : (f : Front) (s : ℕ) → index_of f s ≡ None → scale_of f s ≡ 1
unfolding scale_of
scale_of-unscaled f s e = rw e refl

-- numbers of 32 bits with sign
abbrev pub HasSignedLong : ℤ → Type 0
HasSignedLong n = (neg_ℤ (pos (2 ^ 31)) ≤ℤ n) × (n <ℤ pos (2 ^ 31))

signed_byte-within : (n : ℕ) → n < 256 → HasSignedLong (signed_byte n)
unfolding signed_byte
signed_byte-within n small = grind (arith, nat_tests, ints)

signed_long-within : (n : ℕ) → n < 4294967296 → HasSignedLong (signed_long n)
unfolding signed_long
signed_long-within n small = grind (arith, nat_tests, ints)

displacement-within : (count : ℕ) (bytes : List ℕ) → AllByRecursion IsByte bytes → HasSignedLong (displacement count bytes)
unfolding displacement
displacement-within count bytes h =
    elim (count == 1) as (λ b. HasSignedLong (if b then signed_byte (get_or bytes 0 0) else (if count == 4 then signed_long (four_bytes bytes) else pos 0))) [
      | true ↦ signed_byte-within (get_or bytes 0 0) (byte_at bytes 0 h)
      | false ↦
          elim (count == 4) as (λ b. HasSignedLong (if b then signed_long (four_bytes bytes) else pos 0)) [
            | true ↦ signed_long-within (four_bytes bytes) (four_bytes-small bytes h)
            | false ↦ (omega (arith, ints), omega (arith, ints))
          ]
    ]

pub memory_of-formed : (f : Front) (rest : List ℕ) → AllByRecursion IsByte rest → IsMemory (memory_of f rest)
unfolding memory_of
memory_of-formed f rest h =
    let m = get_or rest 0 0 in
    let s = get_or rest 1 0 in
    let small : s < 256 = byte_at rest 1 h in
    record {
      base = base_of-formed f m s;
      index = elim (has_sib m) as (λ b. IfSome (if b then index_of f s else None) (λ n. (n < 16) × (n ≢ 4))) [ true ↦ index_of-formed f s | false ↦ tt ];
      scale = elim (has_sib m) as (λ b. (k : ℕ) × (k < 4) × ((if b then scale_of f s else 1) ≡ 2 ^ k)) [ true ↦ scale_of-formed f s small | false ↦ (0, omega arith, refl) ];
      unscaled = elim (has_sib m) as (λ b. (if b then index_of f s else None) ≡ None → (if b then scale_of f s else 1) ≡ 1) [ true ↦ scale_of-unscaled f s | false ↦ λ e. refl ];
      relative = λ e. (base_of-relative f m s e, rw (relative_plain m e) refl);
      offset = displacement-within (displacement_size m s) (drop (1 + sib_size m) rest) (bytes_after (1 + sib_size m) rest h);
    }

-- the r/m operand
pub rm_operand-formed : (f : Front) (s : Size) (rest : List ℕ) → AllByRecursion IsByte rest → IsStored (width_of f s) (rm_operand f s rest)
unfolding rm_operand
rm_operand-formed f s rest h =
    elim (is_memory (get_or rest 0 0)) as (λ b. IsStored (width_of f s) (if b then operand.Mem (memory_of f rest) else operand.Reg (register f s (get_or rest 0 0 % 8 + 8 * rex_bit 1 f.rex))))
    [ true ↦ memory_of-formed f rest h | false ↦ register-formed f s (get_or rest 0 0 % 8) 1 (omega arith) ]

pub rm_operand-in_memory : (f : Front) (s : Size) (rest : List ℕ) → is_in_memory (rm_operand f s rest) ≡ is_memory (get_or rest 0 0)
unfolding rm_operand
rm_operand-in_memory f s rest =
    elim (is_memory (get_or rest 0 0)) as (λ b. is_in_memory (if b then operand.Mem (memory_of f rest) else operand.Reg (register f s (get_or rest 0 0 % 8 + 8 * rex_bit 1 f.rex))) ≡ b)
    [ true ↦ refl | false ↦ refl ]

pub operand_width-not_byte : (f : Front) → operand_width f ≢ width.Byte
unfolding operand_width
operand_width-not_byte f =
    elim (rex_bit 8 f.rex == 1) as (λ b. (if b then width.Quad else (if f.word then width.Word else width.Long)) ≢ width.Byte) [
      | true ↦ (λ e. absurd (cc))
      | false ↦ (elim f.word as (λ b. (if b then width.Word else width.Long) ≢ width.Byte) [ true ↦ (λ e. absurd (cc)) | false ↦ (λ e. absurd (cc)) ])
    ]

pub operand_width-not_quad : (f : Front) → rex_bit 8 f.rex ≡ 0 → operand_width f ≢ width.Quad
unfolding operand_width
operand_width-not_quad f none =
    rw none (elim f.word as (λ b. (if b then width.Word else width.Long) ≢ width.Quad) [ true ↦ (λ e. absurd (cc)) | false ↦ (λ e. absurd (cc)) ])
