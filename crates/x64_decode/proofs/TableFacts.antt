-- What is asked of the opcode table: each test is made by computing it for every row.
use Rattle.std.proofs.Common.{◌≡◌, ℕ, ◌%◌, ◌<◌, Bool, true, false, not, ◌&&◌, ◌||◌, ◌==◌, nat_lt, List, [], ◌∷◌, ◌++◌, length, Option, Some, ◌⊎◌, inl, inr, refl, sym, subst, arith}
use Rattle.std.specs.List.{AllByRecursion}
use Rattle.std.proofs.lemmas.Bool.{and_parts, ltb-true, not-true}
use Rattle.x64_syntax.specs.declared.instr.AluOp.TheVariants as op
use Rattle.x64_decode.specs.declared.row.Before.{Before}
use Rattle.x64_decode.specs.declared.row.Before.TheVariants as before
use Rattle.x64_decode.specs.declared.row.Code.TheVariants.{One}
use Rattle.x64_decode.specs.declared.row.Front.{Front}
use Rattle.x64_decode.specs.declared.row.Lock.TheVariants as lock
use Rattle.x64_decode.specs.declared.row.Name.TheVariants as name
use Rattle.x64_decode.specs.declared.row.Row.{Row}
use Rattle.x64_decode.specs.declared.row.Size.TheVariants as size
use Rattle.x64_decode.specs.Bytes.{IsByte, is_prefix, is_rex}
use Rattle.x64_decode.specs.Meaning.{meaning}
use Rattle.x64_decode.specs.Operands.{displacement_size, has_modrm, has_sib, immediate_size, is_memory, is_rip, lacks_base, modrm_size, operand_size, rest_size, sib_size}
use Rattle.x64_decode.specs.Spelling.{SpellsBy, StandsIn, allows, code_bytes, modrm_allows, takes_memory}
use Rattle.x64_decode.specs.Table.{Eb, Gb, table, two}
use Rattle.x64_decode.proofs.Codes.{clash}
use Rattle.x64_decode.proofs.FrontLemmas.{IsBody}

-- ---- codes are bytes that begin with neither a prefix nor REX

abbrev pub all_bytes : List ℕ → Bool
all_bytes [] = true
all_bytes (b ∷ bs) = nat_lt b 256 && all_bytes bs

abbrev pub opens : List ℕ → Bool
opens [] = false
opens (b ∷ bs) = not (is_prefix b) && not (is_rex b)

abbrev pub good_codes : List Row → Bool
good_codes [] = true
good_codes (r ∷ rs) = (all_bytes (code_bytes r.code) && opens (code_bytes r.code)) && good_codes rs

table-good_codes : good_codes table ≡ true
unfolding table is_prefix is_rex
table-good_codes = refl

good_code : (rows : List Row) (r : Row) → good_codes rows ≡ true → StandsIn rows r →
    (all_bytes (code_bytes r.code) && opens (code_bytes r.code)) ≡ true
good_code [] r h stands = absurd stands
good_code (x ∷ xs) r h (inl e) =
    let P : Row → Type 0 = λ q. (all_bytes (code_bytes q.code) && opens (code_bytes q.code)) ≡ true in
    subst P (sym e) (and_parts (all_bytes (code_bytes x.code) && opens (code_bytes x.code)) (good_codes xs) h).0
good_code (x ∷ xs) r h (inr stands) =
    good_code xs r (and_parts (all_bytes (code_bytes x.code) && opens (code_bytes x.code)) (good_codes xs) h).1 stands

bytes_from_test : (xs : List ℕ) → all_bytes xs ≡ true → AllByRecursion IsByte xs
bytes_from_test [] h = tt
bytes_from_test (x ∷ xs) h =
    let parts = and_parts (nat_lt x 256) (all_bytes xs) h in
    (ltb-true x 256 parts.0, bytes_from_test xs parts.1)

-- the code of a listed row is bytes
pub code-bytes : (r : Row) → StandsIn table r → AllByRecursion IsByte (code_bytes r.code)
code-bytes r stands =
    bytes_from_test (code_bytes r.code) (and_parts (all_bytes (code_bytes r.code)) (opens (code_bytes r.code)) (good_code table r table-good_codes stands)).0

body_from_test : (xs ys : List ℕ) → opens xs ≡ true → IsBody (xs ++ ys) × (0 < length (xs ++ ys))
body_from_test [] ys h = absurd (cc)
body_from_test (x ∷ xs) ys h =
    let parts = and_parts (not (is_prefix x)) (not (is_rex x)) h in
    ((not-true (is_prefix x) parts.0, not-true (is_rex x) parts.1), omega arith)

-- what a listed row spells begins with neither a prefix nor REX
pub code-opens : (r : Row) (rest : List ℕ) → StandsIn table r → IsBody (code_bytes r.code ++ rest) × (0 < length (code_bytes r.code ++ rest))
code-opens r rest stands =
    body_from_test (code_bytes r.code) rest (and_parts (all_bytes (code_bytes r.code)) (opens (code_bytes r.code)) (good_code table r table-good_codes stands)).1

-- ---- two bytes make an instruction behind any front

-- ADD to memory from a register of 8 bits, which F0 may stand before
abbrev pub witness : Row
witness = record (two (One 0) size.Byte Eb Gb (name.Alu op.Add)) { lock = lock.WithMemory }

pub witness-listed : StandsIn table witness
unfolding table
witness-listed = inl refl

pub witness-spells : (f : Front) → SpellsBy f witness (0 ∷ 0 ∷ []) (meaning f witness (0 ∷ []))
unfolding allows has_modrm modrm_allows is_memory takes_memory rest_size operand_size modrm_size sib_size has_sib displacement_size is_rip lacks_base immediate_size
witness-spells f = record { rest = 0 ∷ []; parts = refl; allowed = refl; whole = refl; means = refl }

-- ---- any two rows differ in what they spell

-- two rows ask for different numbers in ModRM's reg field
abbrev pub digits_differ : Option ℕ → Option ℕ → Bool
digits_differ (Some a) (Some b) = not (a % 8 == b % 8)
digits_differ _ _ = false

-- one row asks for REX.B, and the other for none
abbrev pub fronts_differ : Before → Before → Bool
fronts_differ before.WithB before.WithoutB = true
fronts_differ before.WithoutB before.WithB = true
fronts_differ _ _ = false

-- two codes are the same
abbrev pub same_bytes : List ℕ → List ℕ → Bool
same_bytes [] [] = true
same_bytes (x ∷ xs) (y ∷ ys) = (x == y) && same_bytes xs ys
same_bytes _ _ = false

abbrev pub differ : Row → Row → Bool
differ r s =
    clash (code_bytes r.code) (code_bytes s.code)
    || (same_bytes (code_bytes r.code) (code_bytes s.code) && (digits_differ r.digit s.digit || fronts_differ r.before s.before))

abbrev pub differs_from : Row → List Row → Bool
differs_from r [] = true
differs_from r (s ∷ rs) = differ r s && differs_from r rs

abbrev pub all_differ : List Row → Bool
all_differ [] = true
all_differ (r ∷ rs) = differs_from r rs && all_differ rs

table-all_differ : all_differ table ≡ true
unfolding table
table-all_differ = refl

differs_at : (r s : Row) (rows : List Row) → differs_from r rows ≡ true → StandsIn rows s → differ r s ≡ true
differs_at r s [] h stands = absurd stands
differs_at r s (x ∷ xs) h (inl e) =
    let P : Row → Type 0 = λ q. differ r q ≡ true in subst P (sym e) (and_parts (differ r x) (differs_from r xs) h).0
differs_at r s (x ∷ xs) h (inr stands) = differs_at r s xs (and_parts (differ r x) (differs_from r xs) h).1 stands

apart : (rows : List Row) (r s : Row) → all_differ rows ≡ true → StandsIn rows r → StandsIn rows s →
    (r ≡ s) ⊎ ((differ r s ≡ true) ⊎ (differ s r ≡ true))
apart [] r s h i j = absurd i
apart (x ∷ xs) r s h (inl e) (inl e') = inl (cc)
apart (x ∷ xs) r s h (inl e) (inr j) =
    let P : Row → Type 0 = λ q. differ q s ≡ true in
    inr (inl (subst P (sym e) (differs_at x s xs (and_parts (differs_from x xs) (all_differ xs) h).0 j)))
apart (x ∷ xs) r s h (inr i) (inl e) =
    let P : Row → Type 0 = λ q. differ q r ≡ true in
    inr (inr (subst P (sym e) (differs_at x r xs (and_parts (differs_from x xs) (all_differ xs) h).0 i)))
apart (x ∷ xs) r s h (inr i) (inr j) = apart xs r s (and_parts (differs_from x xs) (all_differ xs) h).1 i j

-- two listed rows are one, or differ
pub rows-apart : (r s : Row) → StandsIn table r → StandsIn table s → (r ≡ s) ⊎ ((differ r s ≡ true) ⊎ (differ s r ≡ true))
rows-apart r s i j = apart table r s table-all_differ i j
