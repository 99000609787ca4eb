-- What addresses count for together.
use Rattle.std.proofs.Common.{◌≡◌, ◌≢◌, ◌<◌, ◌≤◌, ◌+◌, ℕ, zero, suc, Bool, true, false, List, [], ◌∷◌, ◌++◌, length, ◌⊎◌, inl, inr, Option, Some, None, IfSome, map, ap, sym, ◌∙◌, refl, subst, take, sum_by, arith}
use Rattle.std.specs.Prelude.{◌==◌, if◌then◌else◌}
use Rattle.std.specs.List.{slice_get}
use Rattle.std.proofs.lemmas.Bool.Decides.{nat_tests}
use Rattle.std.proofs.lemmas.List.Sums.{sum_by-cons, sum_by_push}
use Rattle.ev_graph.specs.Places.{StandsIn, IsDistinct}
use Rattle.ev_graph.proofs.Members.{stands_map, stands_image}
use Rattle.ev_graph.proofs.PlaceLemmas.{push_cases}
use Rattle.graph_reach.proofs.CallerLemmas.{sum_within}
use Rattle.graph_reach.proofs.Places.{from_front}
use Rattle.code_at.specs.Code.{Program}
use Rattle.jump_table.specs.declared.entries.Table.{Table}
use Rattle.jump_table.specs.Pattern.{Begins, IsToldTable}
use Rattle.jump_table.proofs.CallerLemmas.{one_table}
use Rattle.cfg_walk.specs.Reach.{IsReached}
use Rattle.cfg_walk.specs.Faults.{IsTooMuch, Counted, weight, weight_with, code_limit}
use Rattle.cfg_walk.specs.Searching.{AreWeighed, Weighs}

-- ---- the front of a list

pub stands_taken : (n : ℕ) (xs : List ℕ) (x : ℕ) → StandsIn (take n xs) x → StandsIn xs x
stands_taken n xs x at = (at.0, (from_front n xs at.0 x at.1).1)

pub distinct_taken : (n : ℕ) (xs : List ℕ) → IsDistinct xs → IsDistinct (take n xs)
distinct_taken n xs once i j x first second = once i j x (from_front n xs i x first).1 (from_front n xs j x second).1

-- ---- sums

sum_same : (f g : ℕ → ℕ) (xs : List ℕ) → ((x : ℕ) → StandsIn xs x → f x ≡ g x) → sum_by f xs ≡ sum_by g xs
sum_same f g [] same = refl
sum_same f g (x ∷ xs) same =
    let rest = sum_same f g xs (λ y at. same y (suc at.0, at.1)) in
    let here = same x (zero, refl) in
    omega (arith, sum_by-cons f x xs, sum_by-cons g x xs, rest, here)

sum_of_ones : (w : ℕ → ℕ) (xs : List ℕ) → ((x : ℕ) → StandsIn xs x → 1 ≤ w x) → length xs ≤ sum_by w xs
sum_of_ones w [] each = omega arith
sum_of_ones w (x ∷ xs) each =
    let rest = sum_of_ones w xs (λ y at. each y (suc at.0, at.1)) in
    let here = each x (zero, refl) in
    omega (arith, sum_by-cons w x xs, rest, here)

-- ---- what addresses count for

pub none_weighed : (program : Program) → AreWeighed program [] 0
none_weighed program = record { weight_of = λ a. 0; each = λ a at. absurd (let none = at.1 in cc); sum = refl }

-- one value of a map is another
abbrev with_one : (ℕ → ℕ) → (a n : ℕ) → ℕ → ℕ
with_one w a n x = if x == a then n else w x

here_is : (w : ℕ → ℕ) (a n x : ℕ) → x ≡ a → with_one w a n x ≡ n
here_is w a n x same = by_test (x == a) (grind (arith, nat_tests))
  where
    by_test : (b : Bool) → b ≡ true → (if b then n else w x) ≡ n
    by_test true e = refl
    by_test false e = absurd cc

elsewhere_is : (w : ℕ → ℕ) (a n x : ℕ) → x ≢ a → with_one w a n x ≡ w x
elsewhere_is w a n x other = by_test (x == a) (grind (arith, nat_tests))
  where
    by_test : (b : Bool) → b ≡ false → (if b then n else w x) ≡ w x
    by_test false e = refl
    by_test true e = absurd cc

-- one address more
pub weigh_one : (program : Program) (nodes : List ℕ) (place a : ℕ) (table : Option Table) (total : ℕ) → slice_get nodes place ≡ Some a → IsDistinct nodes
    → IsToldTable program a table → AreWeighed program (take place nodes) total
    → AreWeighed program (take place nodes ++ a ∷ []) (total + weight_with table)
weigh_one program nodes place a table total at once told weighed = record { weight_of = w; each = each; sum = sum }
  where
    front : List ℕ
    front = take place nodes

    w : ℕ → ℕ
    w = with_one weighed.weight_of a (weight_with table)

    apart : (x : ℕ) → StandsIn front x → x ≢ a
    apart x (i, here) same =
        let there = from_front place nodes i x here in
        let one = once i place a (there.1 ∙ ap (λ (y : ℕ). Some y) same) at in
        omega (arith, one, there.0)

    each : (x : ℕ) → StandsIn (front ++ a ∷ []) x → Weighs program x (w x)
    each x (i, here) = elim (push_cases front a i x here) [
      | inl before ↦ subst (Weighs program x) (sym (elsewhere_is weighed.weight_of a (weight_with table) x (apart x (i, before)))) (weighed.each x (i, before))
      | inr last ↦ record {
        table = table;
        told = subst (λ y. IsToldTable program y table) last.1 told;
        counts = here_is weighed.weight_of a (weight_with table) x (sym last.1);
      }
    ]

    sum : sum_by w (front ++ a ∷ []) ≡ total + weight_with table
    sum =
        let before = sum_same w weighed.weight_of front (λ x is. elsewhere_is weighed.weight_of a (weight_with table) x (apart x is)) in
        let last : w a ≡ weight_with table = here_is weighed.weight_of a (weight_with table) a refl in
        let all = sum_by_push w front a in
        let known = weighed.sum in
        omega (arith, before, last, all, known)

one_at_least : (table : Option Table) → 1 ≤ weight_with table
one_at_least None = omega arith
one_at_least (Some t) = omega arith

-- each counts for one at least
pub at_least_one : (program : Program) (nodes : List ℕ) (total : ℕ) → AreWeighed program nodes total → length nodes ≤ total
at_least_one program nodes total weighed =
    let many = sum_of_ones weighed.weight_of nodes (λ x is.
    let weighs = weighed.each x is in let counts = weighs.counts in let one = one_at_least weighs.table in omega (arith, counts, one)) in
    let sum = weighed.sum in
    omega (arith, many, sum)

-- ---- what is counted of them

weight_below : (program : Program) (a n : ℕ) (table : Option Table) → IfSome table (Begins program a) → Weighs program a n → weight_with table ≤ n
weight_below program a n None begins weighs = let counts = weighs.counts in let one = one_at_least weighs.table in omega (arith, counts, one)
weight_below program a n (Some t) begins weighs = by_told weighs.table weighs.told weighs.counts
  where
    by_told : (other : Option Table) → IsToldTable program a other → n ≡ weight_with other → weight_with (Some t) ≤ n
    by_told None told counts = absurd (told t begins)
    by_told (Some s) told counts =
        let same : t.count ≡ s.count = ap (λ (u : Table). u.count) (one_table program a t s begins told) in
        omega (arith, counts, same)

abbrev addresses : List Counted → List ℕ
addresses some = map (λ (c : Counted). c.address) some

sum_below : (w : ℕ → ℕ) (some : List Counted) → ((c : Counted) → StandsIn some c → weight c ≤ w c.address) → sum_by weight some ≤ sum_by w (addresses some)
sum_below w [] each = omega arith
sum_below w (c ∷ some) each =
    let rest = sum_below w some (λ d at. each d (suc at.0, at.1)) in
    let here = each c (zero, refl) in
    omega (arith, sum_by-cons weight c some, sum_by-cons w c.address (addresses some), rest, here)

-- what is counted of addresses that are weighed is no more than they count for together
pub counted_within : (program : Program) (nodes : List ℕ) (total : ℕ) → AreWeighed program nodes total → (some : List Counted)
    → ((c : Counted) → StandsIn some c → StandsIn nodes c.address) → ((c : Counted) → StandsIn some c → IfSome c.table (Begins program c.address))
    → IsDistinct (addresses some) → sum_by weight some ≤ total
counted_within program nodes total weighed some among begins once =
    let below = sum_below weighed.weight_of some (λ c at. weight_below program c.address (weighed.weight_of c.address) c.table (begins c at) (weighed.each c.address (among c at))) in
    let within = sum_within weighed.weight_of (addresses some) nodes once (λ x at.
    let of = stands_image (λ (c : Counted). c.address) some x at in subst (λ y. StandsIn nodes y) of.2 (among of.0 of.1)) in
    let sum = weighed.sum in
    omega (arith, below, within, sum)

-- each of the addresses with all that it counts for
record AreCounted (program : Program) (w : ℕ → ℕ) (xs : List ℕ) : Type 0 where
  some : List Counted
  are : addresses some ≡ xs
  begins : (c : Counted) → StandsIn some c → IfSome c.table (Begins program c.address)
  sum : sum_by weight some ≡ sum_by w xs

begins_told : (program : Program) (a : ℕ) (table : Option Table) → IsToldTable program a table → IfSome table (Begins program a)
begins_told program a None told = tt
begins_told program a (Some t) told = told

counted : (program : Program) (w : ℕ → ℕ) (xs : List ℕ) → ((x : ℕ) → StandsIn xs x → Weighs program x (w x)) → AreCounted program w xs
counted program w [] each = record { some = []; are = refl; begins = λ c at. absurd (let none = at.1 in cc); sum = refl }
counted program w (x ∷ xs) each =
    let weighs = each x (zero, refl) in
    let rest = counted program w xs (λ y at. each y (suc at.0, at.1)) in
    let one : Counted = record { address = x; table = weighs.table } in
    let counts = weighs.counts in
    let tail = rest.sum in
    record {
      some = one ∷ rest.some;
      are = ap (λ (ys : List ℕ). x ∷ ys) rest.are;
      begins = λ c at. begins weighs rest c at.0 at.1;
      sum = omega (arith, sum_by-cons weight one rest.some, sum_by-cons w x xs, counts, tail);
    }
  where
    begins : (weighs : Weighs program x (w x)) (rest : AreCounted program w xs) (c : Counted) (i : ℕ)
        → slice_get (record { address = x; table = weighs.table } ∷ rest.some) i ≡ Some c → IfSome c.table (Begins program c.address)
    begins weighs rest c zero here =
        let same : record { address = x; table = weighs.table } ≡ c = cc in
        subst (λ (d : Counted). IfSome d.table (Begins program d.address)) same (begins_told program x weighs.table weighs.told)
    begins weighs rest c (suc i) here = rest.begins c (i, here)

-- more reached addresses than the limit are too much
pub many_reached : (program : Program) (some : List ℕ) → ((a : ℕ) → StandsIn some a → IsReached program a) → IsDistinct some → code_limit < length some → IsTooMuch program
many_reached program some reached once more = record {
  some = map plain some;
  reached = λ c at. let of = stands_image plain some c at in subst (λ (d : Counted). IsReached program d.address) of.2 (reached of.0 of.1);
  begins = λ c at. let of = stands_image plain some c at in subst (λ (d : Counted). IfSome d.table (Begins program d.address)) of.2 tt;
  once = subst (λ (xs : List ℕ). IsDistinct xs) (sym (same some)) once;
  more = (let all = ones some in omega (arith, all, more));
}
  where
    plain : ℕ → Counted
    plain a = record { address = a; table = None }

    same : (xs : List ℕ) → addresses (map plain xs) ≡ xs
    same [] = refl
    same (x ∷ xs) = ap (λ (ys : List ℕ). x ∷ ys) (same xs)

    ones : (xs : List ℕ) → sum_by weight (map plain xs) ≡ length xs
    ones [] = refl
    ones (x ∷ xs) = let rest = ones xs in omega (arith, sum_by-cons weight (plain x) (map plain xs), rest)

-- reached addresses that count for more than the limit are too much
pub over_limit : (program : Program) (nodes : List ℕ) (total : ℕ) → AreWeighed program nodes total → ((a : ℕ) → StandsIn nodes a → IsReached program a)
    → IsDistinct nodes → code_limit < total → IsTooMuch program
over_limit program nodes total weighed reached once more =
    let all = counted program weighed.weight_of nodes weighed.each in
    record {
      some = all.some;
      reached = λ c at. reached c.address (subst (λ xs. StandsIn xs c.address) all.are (stands_map (λ (d : Counted). d.address) all.some c at));
      begins = all.begins;
      once = subst (λ (xs : List ℕ). IsDistinct xs) (sym all.are) once;
      more = (let same = all.sum in let sum = weighed.sum in omega (arith, same, sum, more));
    }
