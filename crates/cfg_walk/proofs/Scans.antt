-- The least indirect call or jump, and the least one that begins inside another.
use Rattle.std.proofs.Common.{◌≡◌, ◌<◌, ◌≤◌, ◌+◌, ◌-◌, ℕ, zero, suc, true, false, List, [], ◌∷◌, length, get_or, Some, None, map, refl, sym, ap, ◌∙◌, subst, arith, ◌⊎◌, inl, inr}
use Rattle.std.specs.List.{slice_get}
use Rattle.std.proofs.lemmas.Option.{slice_get_within, slice_get-get_or}
use Rattle.std.proofs.lemmas.Bool.{cases_lt}
use Rattle.x64_syntax.specs.declared.placed.Placed.{Placed}
use Rattle.elf_read.specs.declared.fault.FileFault.{FileFault}
use Rattle.elf_read.specs.declared.fault.FileFault.TheVariants.{TooMuchCode, BadCode, Indirect, Overlap}
use Rattle.elf_read.specs.FirstFault.{Clear, IsFirst, Before, rank}
use Rattle.code_at.specs.Code.{Program}
use Rattle.cfg_walk.specs.Code.{AreInstructions, IsIncreasing}
use Rattle.cfg_walk.specs.Reach.{end_of}
use Rattle.cfg_walk.specs.Faults.{Holds, IsIndirect, IsOverlapping, is_indirect}
use Rattle.cfg_walk.specs.Searching.{address_of}
use Rattle.cfg_walk.specs.Least.{IsLeast}

map_get : (placed : List Placed) (i : ℕ) (p : Placed) → slice_get placed i ≡ Some p → slice_get (map address_of placed) i ≡ Some p.address
map_get [] i p at = absurd (let nothing = at in cc)
map_get (q ∷ ps) zero p at = ap (λ (o : Placed). Some o.address) (some_same at)
  where
    some_same : {A : Type 0} {x y : A} → Some x ≡ Some y → x ≡ y
    some_same e = cc
map_get (q ∷ ps) (suc i) p at = map_get ps i p at

-- an instruction with a lesser address stands earlier
earlier : (placed : List Placed) → IsIncreasing (map address_of placed) → (i j : ℕ) (p q : Placed) → slice_get placed i ≡ Some p → slice_get placed j ≡ Some q → p.address < q.address → i < j
earlier placed sorted i j p q one other less = by_order (cases_lt i j)
  where
    by_order : (i < j) ⊎ (j ≤ i) → i < j
    by_order (inl before) = before
    by_order (inr after) = by_case (cases_lt j i)
      where
        by_case : (j < i) ⊎ (i ≤ j) → i < j
        by_case (inl behind) = let more = sorted j i q.address p.address behind (map_get placed j q other) (map_get placed i p one) in absurd (omega (arith, more, less))
        by_case (inr same) =
            let e : i ≡ j = omega (arith, same, after) in
            let here : slice_get placed j ≡ Some p = subst (λ (k : ℕ). slice_get placed k ≡ Some p) e one in
            let equal : p ≡ q = cc in
            let addresses : p.address ≡ q.address = ap address_of equal in
            absurd (omega (arith, addresses, less))

-- those of the instructions before a place are all direct
abbrev pub DirectUpTo : List Placed → ℕ → Type 0
DirectUpTo placed n = (i : ℕ) (p : Placed) → i < n → slice_get placed i ≡ Some p → is_indirect p.instr ≡ false

pub direct_more : (placed : List Placed) (n : ℕ) (p : Placed) → slice_get placed n ≡ Some p → is_indirect p.instr ≡ false → DirectUpTo placed n → DirectUpTo placed (n + 1)
direct_more placed n p at direct before i q below here = by_order (cases_lt i n)
  where
    by_order : (i < n) ⊎ (n ≤ i) → is_indirect q.instr ≡ false
    by_order (inl less) = before i q less here
    by_order (inr past) =
        let e : i ≡ n = omega (arith, past, below) in
        let there : slice_get placed n ≡ Some q = subst (λ (k : ℕ). slice_get placed k ≡ Some q) e here in
        let same : p ≡ q = cc in
        subst (λ (o : Placed). is_indirect o.instr ≡ false) same direct

pub least_indirect : (program : Program) (placed : List Placed) (n : ℕ) (p : Placed) → slice_get placed n ≡ Some p → is_indirect p.instr ≡ true → DirectUpTo placed n
    → AreInstructions program placed → IsLeast (IsIndirect program) (Some p.address)
least_indirect program placed n p at indirect before are = (
  record { p = p; placed = (are.exact p).0 (n, at); here = refl; indirect = indirect },
  λ b less is. let there = (are.exact is.p).1 is.placed in
      let addresses = is.here in
      let first = earlier placed are.sorted there.0 n is.p p there.1 at (omega (arith, less, addresses)) in
      let direct = before there.0 is.p first there.1 in
      let indirect = is.indirect in
      absurd (differ (sym direct ∙ indirect)),
)
  where
    differ : false ≡ true → ⊥
    differ e = absurd cc

pub none_indirect : (program : Program) (placed : List Placed) (n : ℕ) → length placed ≤ n → DirectUpTo placed n → AreInstructions program placed → IsLeast (IsIndirect program) None
none_indirect program placed n end before are a is =
    let there = (are.exact is.p).1 is.placed in
    let within = slice_get_within placed there.0 is.p there.1 in
    let direct = before there.0 is.p (omega (arith, within, end)) there.1 in
    differ (sym direct ∙ is.indirect)
  where
    differ : false ≡ true → ⊥
    differ e = absurd cc

-- before a place each instruction ends where the next begins, or earlier
abbrev pub ApartUpTo : List Placed → ℕ → Type 0
ApartUpTo placed n = (i : ℕ) (p q : Placed) → suc i < n → slice_get placed i ≡ Some p → slice_get placed (suc i) ≡ Some q → end_of p ≤ q.address

-- then each ends before any later one begins
ends_before : (placed : List Placed) (n : ℕ) → IsIncreasing (map address_of placed) → ApartUpTo placed n → (i j : ℕ) (p q : Placed) → i < j → j < n
    → slice_get placed i ≡ Some p → slice_get placed j ≡ Some q → end_of p ≤ q.address
ends_before placed n sorted apart i j p q less below one other = by_order (cases_lt (suc i) j)
  where
    next : (k : ℕ) → suc k < length placed ⊎ suc k ≡ length placed → k < length placed → (o : Placed) × (slice_get placed k ≡ Some o)
    next k cases within = get placed k within
      where
        get : (ps : List Placed) (k : ℕ) → k < length ps → (o : Placed) × (slice_get ps k ≡ Some o)
        get [] k within = absurd (omega (arith, within))
        get (o ∷ ps) zero within = (o, refl)
        get (o ∷ ps) (suc k) within = get ps k (omega (arith, within))

    by_order : (suc i < j) ⊎ (j ≤ suc i) → end_of p ≤ q.address
    by_order (inl more) =
        let within = slice_get_within placed j q other in
        let mid = next (suc i) (inl (omega (arith, more, within))) (omega (arith, more, within)) in
        let near = apart i p mid.0 (omega (arith, more, below)) one mid.1 in
        let far = sorted (suc i) j mid.0.address q.address more (map_get placed (suc i) mid.0 mid.1) (map_get placed j q other) in
        omega (arith, near, far)
    by_order (inr at) =
        let e : j ≡ suc i = omega (arith, at, less) in
        apart i p q (omega (arith, e, below)) one (subst (λ (k : ℕ). slice_get placed k ≡ Some q) e other)

pub apart_more : (placed : List Placed) (k : ℕ) (p q : Placed) → slice_get placed (k - 1) ≡ Some p → slice_get placed k ≡ Some q → 0 < k → end_of p ≤ q.address → ApartUpTo placed k
    → ApartUpTo placed (k + 1)
apart_more placed k p q one other some ends before i o r below here there = by_order (cases_lt (suc i) k)
  where
    by_order : (suc i < k) ⊎ (k ≤ suc i) → end_of o ≤ r.address
    by_order (inl less) = before i o r less here there
    by_order (inr past) =
        let e : suc i ≡ k = omega (arith, past, below) in
        let back : i ≡ k - 1 = omega (arith, e) in
        let first : slice_get placed (k - 1) ≡ Some o = subst (λ (m : ℕ). slice_get placed m ≡ Some o) back here in
        let second : slice_get placed k ≡ Some r = subst (λ (m : ℕ). slice_get placed m ≡ Some r) e there in
        let same : p ≡ o = cc in
        let equal : q ≡ r = cc in
        subst (λ (x : Placed). end_of x ≤ r.address) same (subst (λ (x : Placed). end_of p ≤ x.address) equal ends)

-- no instruction before the place begins inside another
none_inside : (program : Program) (placed : List Placed) (n : ℕ) → ApartUpTo placed n → AreInstructions program placed → (a : ℕ) → IsOverlapping program a
    → ((j : ℕ) (q : Placed) → slice_get placed j ≡ Some q → q.address ≡ a → j < n) → ⊥
none_inside program placed n apart are a is early =
    let there = (are.exact is.p).1 is.placed in
    let other = (are.exact is.other).1 is.other_placed in
    let addresses = is.here in
    let behind = is.behind in
    let inside = is.inside in
    let first = earlier placed are.sorted other.0 there.0 is.other is.p other.1 there.1 (omega (arith, behind, addresses)) in
    let ends = ends_before placed n are.sorted apart other.0 there.0 is.other is.p first (early there.0 is.p there.1 addresses) other.1 there.1 in
    omega (arith, ends, inside, addresses)

pub least_overlap : (program : Program) (placed : List Placed) (k : ℕ) (p q : Placed) → slice_get placed (k - 1) ≡ Some p → slice_get placed k ≡ Some q → 0 < k → q.address - p.address < p.length
    → ApartUpTo placed k → AreInstructions program placed → IsLeast (IsOverlapping program) (Some q.address)
least_overlap program placed k p q one other some near apart are = (
  record {
    p = q;
    placed = (are.exact q).0 (k, other);
    here = refl;
    other = p;
    other_placed = (are.exact p).0 (k - 1, one);
    behind = above;
    inside = omega (arith, near, above);
  },
  λ b less is. none_inside program placed k apart are b is
      (λ j r at here. earlier placed are.sorted j k r q at other (omega (arith, here, less))),
)
  where
    above : p.address < q.address
    above = are.sorted (k - 1) k p.address q.address (omega (arith, some)) (map_get placed (k - 1) p one) (map_get placed k q other)

pub none_overlap : (program : Program) (placed : List Placed) (n : ℕ) → length placed ≤ n → ApartUpTo placed n → AreInstructions program placed → IsLeast (IsOverlapping program) None
none_overlap program placed n end apart are a is =
    none_inside program placed n apart are a is (λ j q at here. let within = slice_get_within placed j q at in omega (arith, within, end))

-- ---- both checks

pub indirect_first : (program : Program) (a : ℕ) → IsLeast (IsIndirect program) (Some a) → IsFirst (Holds program) 15 18 (Indirect a)
indirect_first program a least = record { holds = least.0; from = omega arith; below = omega arith; first = before }
  where
    before : (g : FileFault) → 15 ≤ rank g → Before g (Indirect a) → Holds program g → ⊥
    before (Indirect b) low (inl less) is = absurd (omega (arith, less))
    before (Indirect b) low (inr less) is = least.1 b less.1 is
    before (Overlap b) low (inl less) is = absurd (omega (arith, less))
    before (Overlap b) low (inr same) is = absurd (omega (arith, same.0))
    before TooMuchCode low first is = absurd (omega (arith, low))
    before (BadCode fault) low first is = absurd (omega (arith, low))
    before g low first is = is

pub overlap_first : (program : Program) (a : ℕ) → IsLeast (IsIndirect program) None → IsLeast (IsOverlapping program) (Some a) → IsFirst (Holds program) 15 18 (Overlap a)
overlap_first program a direct least = record { holds = least.0; from = omega arith; below = omega arith; first = before }
  where
    before : (g : FileFault) → 15 ≤ rank g → Before g (Overlap a) → Holds program g → ⊥
    before (Indirect b) low first is = direct b is
    before (Overlap b) low (inl less) is = absurd (omega (arith, less))
    before (Overlap b) low (inr less) is = least.1 b less.1 is
    before TooMuchCode low first is = absurd (omega (arith, low))
    before (BadCode fault) low first is = absurd (omega (arith, low))
    before g low first is = is

pub all_clear : (program : Program) → IsLeast (IsIndirect program) None → IsLeast (IsOverlapping program) None → Clear (Holds program) 15 18
all_clear program direct apart (Indirect b) low high is = direct b is
all_clear program direct apart (Overlap b) low high is = apart b is
all_clear program direct apart TooMuchCode low high is = absurd (omega (arith, low))
all_clear program direct apart (BadCode fault) low high is = absurd (omega (arith, low))
all_clear program direct apart g low high is = is

-- ---- as the code reads neighbours

module _ (placed : List Placed) (k : ℕ) (some : 0 < k) (within : k < length placed) (sorted : IsIncreasing (map address_of placed)) where
  here : (d : Placed) → slice_get placed k ≡ Some (get_or placed k d)
  here d = slice_get-get_or placed k d within

  before : (d : Placed) → slice_get placed (k - 1) ≡ Some (get_or placed (k - 1) d)
  before d = slice_get-get_or placed (k - 1) d (omega (arith, within))

  pub neighbours_rise : (d e : Placed) → (get_or placed (k - 1) d).address ≤ (get_or placed k e).address
  neighbours_rise d e =
      let less = sorted (k - 1) k (get_or placed (k - 1) d).address (get_or placed k e).address (omega (arith, some)) (map_get placed (k - 1) (get_or placed (k - 1) d) (before d))
      (map_get placed k (get_or placed k e) (here e)) in
      omega (arith, less)

  pub neighbours_overlap : (d e : Placed) (n : ℕ) → (get_or placed k e).address - (get_or placed (k - 1) d).address < n → n ≡ (get_or placed (k - 1) d).length → ApartUpTo placed k
      → (program : Program) → AreInstructions program placed → IsLeast (IsOverlapping program) (Some (get_or placed k e).address)
  neighbours_overlap d e n near long apart program are =
      least_overlap program placed k (get_or placed (k - 1) d) (get_or placed k e) (before d) (here e) some (omega (arith, near, long)) apart are

  pub neighbours_apart : (d e : Placed) (n : ℕ) → n ≤ (get_or placed k e).address - (get_or placed (k - 1) d).address → n ≡ (get_or placed (k - 1) d).length → ApartUpTo placed k
      → ApartUpTo placed (k + 1)
  neighbours_apart d e n far long apart =
      let le = neighbours_rise d e in
      apart_more placed k (get_or placed (k - 1) d) (get_or placed k e) (before d) (here e) some (omega (arith, far, long, le)) apart
