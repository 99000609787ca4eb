-- Blocks, met from the last instruction back.
use Rattle.std.proofs.Common.{◌≡◌, ◌↔◌, ◌<◌, ◌≤◌, ◌+◌, ◌-◌, ◌++◌, ℕ, IsTrue, reverse, zero, suc, Bool, true, false, List, [], ◌∷◌, length, map, get_or, ◌⊎◌, inl, inr, Some, refl, sym, ap, subst, ◌∙◌, arith}
use Rattle.std.specs.List.{slice_get}
use Rattle.std.proofs.lemmas.Bool.{cases_lt}
use Rattle.std.proofs.lemmas.List.{reverse-append}
use Rattle.std.proofs.lemmas.Option.{slice_get_within, slice_get-get_or}
use Rattle.x64_syntax.specs.declared.instr.Instr.{Instr}
use Rattle.x64_syntax.specs.declared.instr.Instr.TheVariants as instr
use Rattle.x64_syntax.specs.declared.placed.Flow.{Flow}
use Rattle.x64_syntax.specs.declared.placed.Placed.{Placed}
use Rattle.ev_graph.specs.Places.{StandsIn}
use Rattle.code_at.specs.Code.{Program, StandsAt}
use Rattle.code_at.proofs.CallerLemmas.{one_instruction, some_length}
use Rattle.cfg_walk.specs.declared.code.Block.{Block}
use Rattle.cfg_walk.specs.declared.way.Way.{Way}
use Rattle.cfg_walk.specs.declared.way.Way.TheVariants as way
use Rattle.cfg_walk.specs.Reach.{IsReached, IsPlaced, after, end_of, successors}
use Rattle.cfg_walk.specs.Reach.IsReached.{at-entry as reached-entry, at-next, at-table as reached-table}
use Rattle.cfg_walk.specs.Blocks.{IsLeader, IsStretch, IsBlock, ends_block, led}
use Rattle.cfg_walk.specs.Blocks.IsLeader.{at-entry, at-table, at-led}
use Rattle.cfg_walk.specs.Blocks.IsStretch.{ends, goes-on}
use Rattle.cfg_walk.specs.Code.{IsIncreasing, AreJust, AreBlocks}
use Rattle.cfg_walk.specs.Known.{IsKnown}
use Rattle.cfg_walk.specs.Ways.{way_of}
use Rattle.cfg_walk.proofs.Ways.{way_after, way_led, after_is, led_is, leads_on}

-- ---- what is behind an instruction

-- whether a block ends, by the way
abbrev pub way_ends : Way → Bool
way_ends way.Falls = false
way_ends w = true

ends_is : (i : Instr) (end : ℕ) → ends_block i ≡ way_ends (way_of i end)
ends_is (instr.Jmp displacement) end = refl
ends_is (instr.Jcc condition displacement) end = refl
ends_is (instr.Call displacement) end = refl
ends_is (instr.CallInd to) end = refl
ends_is (instr.JmpInd to) end = refl
ends_is instr.Ret end = refl
ends_is instr.Ud2 end = refl
ends_is i end = refl

-- an instruction with which no block ends goes on behind itself
pub falls : (i : Instr) (f : Flow) (end : ℕ) → ends_block i ≡ false → after i f end ≡ end ∷ []
falls i f end open_it = after_is i f end ∙ by_way (way_of i end) (sym (ends_is i end) ∙ open_it)
  where
    by_way : (w : Way) → way_ends w ≡ false → way_after w f end ≡ end ∷ []
    by_way way.Falls e = refl
    by_way w e = absurd (cc)

pub only : (x b i : ℕ) → slice_get (x ∷ []) i ≡ Some b → b ≡ x
only x b zero here = cc
only x b (suc i) here = absurd (cc)

-- a successor begins a block, or the instruction falls to it
pub leads : (i : Instr) (f : Flow) (end b : ℕ) → StandsIn (after i f end) b → StandsIn (led i f end) b ⊎ ((ends_block i ≡ false) × (b ≡ end))
leads i f end b at = by_way (way_of i end) refl
  where
    by_way : (w : Way) → way_of i end ≡ w → StandsIn (led i f end) b ⊎ ((ends_block i ≡ false) × (b ≡ end))
    by_way way.Falls e =
        let open_it = ends_is i end ∙ ap way_ends e in
        inr (open_it, only end b at.0 (subst (λ xs. slice_get xs at.0 ≡ Some b) (falls i f end open_it) at.1))
    by_way w e = inl (subst (λ xs. StandsIn xs b) (leads_on i f end (λ is. absurd (cc))) at)

-- where blocks begin for the sake of an instruction is a successor of it
pub led_is_next : (i : Instr) (f : Flow) (end b : ℕ) → StandsIn (led i f end) b → StandsIn (after i f end) b
led_is_next i f end b at = by_way (way_of i end) refl
  where
    by_way : (w : Way) → way_of i end ≡ w → StandsIn (after i f end) b
    by_way way.Falls e =
        let none : led i f end ≡ [] = led_is i f end ∙ ap (λ w. way_led w f end) e in
        absurd (let at_none : slice_get [] at.0 ≡ Some b = subst (λ xs. slice_get xs at.0 ≡ Some b) none at.1 in cc)
    by_way w e = subst (λ xs. StandsIn xs b) (sym (leads_on i f end (λ is. absurd (cc)))) at

-- where a block begins is reached
pub leader_reached : (program : Program) (a : ℕ) → IsLeader program a → IsReached program a
leader_reached program a (at-entry at) = reached-entry at
leader_reached program a (at-table from at) = reached-table from at
leader_reached program a (at-led p is at) = at-next p is.reached is.stands (led_is_next p.instr p.flow (end_of p) a at)

-- what is reached begins a block, or an instruction falls to it
comes : (program : Program) (a : ℕ) → IsReached program a
    → IsLeader program a ⊎ ((p : Placed) × IsPlaced program p × (ends_block p.instr ≡ false) × (a ≡ end_of p))
comes program a (reached-entry at) = inl (at-entry at)
comes program a (reached-table from at) = inl (at-table from at)
comes program b (at-next {a = a} p from stands at) =
    let placed : IsPlaced program p = record {
      reached = subst (IsReached program) (sym stands.here) from;
      stands = subst (λ x. StandsAt program x p) (sym stands.here) stands;
    } in
    elim (leads p.instr p.flow (end_of p) b at) [
      | inl led_to ↦ inl (at-led p placed led_to)
      | inr fallen ↦ inr (p, placed, fallen.0, fallen.1)
    ]

-- ---- the order of the instructions

get-map : {A B : Type 0} (f : A → B) (xs : List A) (i : ℕ) (x : A) → slice_get xs i ≡ Some x → slice_get (map f xs) i ≡ Some (f x)
get-map f [] i x here = absurd (cc)
get-map f (y ∷ ys) zero x here = let same : y ≡ x = cc in ap (λ z. Some (f z)) same
get-map f (y ∷ ys) (suc i) x here = get-map f ys i x here

from-map : {A B : Type 0} (f : A → B) (xs : List A) (i : ℕ) (y : B) → slice_get (map f xs) i ≡ Some y → (x : A) × (slice_get xs i ≡ Some x) × (f x ≡ y)
from-map f [] i y here = absurd (cc)
from-map f (x ∷ xs) zero y here = (x, refl, (cc))
from-map f (x ∷ xs) (suc i) y here = from-map f xs i y here

in_order : (program : Program) (placed : List Placed) → IsKnown program placed → (i j : ℕ) (p q : Placed) → i < j → slice_get placed i ≡ Some p
    → slice_get placed j ≡ Some q
    → p.address < q.address
in_order program placed known i j p q less one other =
    known.instructions.sorted i j p.address q.address less (get-map (λ (x : Placed). x.address) placed i p one)
    (get-map (λ (x : Placed). x.address) placed j q other)

-- the place of the lower of two instructions comes first
places : (program : Program) (placed : List Placed) → IsKnown program placed → (i j : ℕ) (p q : Placed) → slice_get placed i ≡ Some p
    → slice_get placed j ≡ Some q
    → p.address < q.address → i < j
places program placed known i j p q one other less = elim (cases_lt i j) [
  | inl before ↦ before
  | inr after_it ↦ elim (cases_lt j i) [
    | inl behind ↦ (let more = in_order program placed known j i q p behind other one in absurd (omega (arith, more, less)))
    | inr last ↦
        (let same : i ≡ j = omega arith in
        let here : slice_get placed i ≡ Some q = subst (λ k. slice_get placed k ≡ Some q) (sym same) other in
        let alike : p ≡ q = cc in
        let level : p.address ≡ q.address = ap (λ (x : Placed). x.address) alike in
        absurd (omega (arith, level, less)))
  ]
]

-- no instruction begins inside another
apart_by : (program : Program) (placed : List Placed) → IsKnown program placed → (p q : Placed) → IsPlaced program p → IsPlaced program q
    → p.address < q.address → q.address < end_of p → ⊥
apart_by program placed known p q one other behind inside =
    known.apart q.address (record { p = q; placed = other; here = refl; other = p; other_placed = one; behind = behind; inside = inside })

-- behind an instruction with which no block ends stands the next one
pub next : (program : Program) (placed : List Placed) → IsKnown program placed → (k : ℕ) (p : Placed) → slice_get placed k ≡ Some p → ends_block p.instr ≡ false
    → (q : Placed) × (slice_get placed (suc k) ≡ Some q) × (q.address ≡ end_of p)
next program placed known k p at open_it =
    let is = (known.instructions.exact p).0 (k, at) in
    let behind : StandsIn (successors p) (end_of p) = (zero, ap (λ xs. slice_get xs zero) (falls p.instr p.flow (end_of p) open_it)) in
    let there = known.whole (end_of p) (at-next p is.reached is.stands behind) in
    let r = there.0 in
    let place = (known.instructions.exact r).1 there.1 in
    let some = some_length program p.address p is.stands in
    let level : r.address ≡ end_of p = there.2 in
    let later = places program placed known k place.0 p r at place.1 (omega (arith, level, some)) in
    by_place r place.0 place.1 level later is
  where
    by_place : (r : Placed) (j : ℕ) → slice_get placed j ≡ Some r → r.address ≡ end_of p → k < j → IsPlaced program p
        → (q : Placed) × (slice_get placed (suc k) ≡ Some q) × (q.address ≡ end_of p)
    by_place r j there level later is = elim (cases_lt (suc k) j) [
      | inl more ↦
          (let q = get_or placed (suc k) p in
          let within = slice_get_within placed j r there in
          let at_q = slice_get-get_or placed (suc k) p (omega (arith, within, more)) in
          let above = in_order program placed known k (suc k) p q (omega arith) at at_q in
          let below = in_order program placed known (suc k) j q r more at_q there in
          absurd (apart_by program placed known p q is ((known.instructions.exact q).0 (suc k, at_q)) above (omega (arith, below, level))))
      | inr last ↦ (let same : j ≡ suc k = omega (arith, last, later) in (r, subst (λ i. slice_get placed i ≡ Some r) same there, level))
    ]

-- to an instruction at which no block begins the one before it falls
joined : (program : Program) (placed : List Placed) → IsKnown program placed → (k : ℕ) (p q : Placed) → slice_get placed k ≡ Some p
    → slice_get placed (suc k) ≡ Some q
    → (IsLeader program q.address → ⊥) → (ends_block p.instr ≡ false) × (q.address ≡ end_of p)
joined program placed known k p q at at_q none =
    let is_q = (known.instructions.exact q).0 (suc k, at_q) in
    elim (comes program q.address is_q.reached) [
      | inl leads_it ↦ absurd (none leads_it)
      | inr from ↦ by_place from.0 from.1 from.2 from.3
    ]
  where
    by_place : (r : Placed) → IsPlaced program r → ends_block r.instr ≡ false → q.address ≡ end_of r → (ends_block p.instr ≡ false) × (q.address ≡ end_of p)
    by_place r is open_it level =
        let place = (known.instructions.exact r).1 is in
        let some = some_length program r.address r is.stands in
        let before = places program placed known place.0 (suc k) r q place.1 at_q (omega (arith, level, some)) in
        elim (cases_lt place.0 k) [
          | inl earlier ↦
              (let above = in_order program placed known place.0 k r p earlier place.1 at in
              let below = in_order program placed known k (suc k) p q (omega arith) at at_q in
              absurd (apart_by program placed known r p is ((known.instructions.exact p).0 (k, at)) above (omega (arith, below, level))))
          | inr last ↦
              (let same : place.0 ≡ k = omega (arith, last, before) in
              let here : slice_get placed k ≡ Some r = subst (λ i. slice_get placed i ≡ Some r) same place.1 in
              let alike : r ≡ p = cc in
              (subst (λ (x : Placed). ends_block x.instr ≡ false) alike open_it, subst (λ (x : Placed). q.address ≡ end_of x) alike level))
        ]

-- ---- stretches

-- the instructions from a place on that are of no block so far: none, or a stretch that begins where no block does
pub data Behind (program : Program) (placed : List Placed) (k : ℕ) : ℕ → Type 0 where
  nothing : length placed ≤ k → Behind program placed k 0
  begun : (q : Placed) → slice_get placed k ≡ Some q → IsLeader program q.address → Behind program placed k 0
  open-end : {n : ℕ} (q : Placed) → slice_get placed k ≡ Some q → (IsLeader program q.address → ⊥) → IsStretch program q.address n → Behind program placed k n

-- with the instruction before it, it is a stretch
longer : (program : Program) (placed : List Placed) → IsKnown program placed → (k n : ℕ) (p : Placed) → slice_get placed k ≡ Some p
    → Behind program placed (suc k) n
    → IsStretch program p.address (suc n)
longer program placed known k n p at (nothing past) = ends p ((known.instructions.exact p).0 (k, at)) (by_end (ends_block p.instr) refl)
  where
    by_end : (b : Bool) → ends_block p.instr ≡ b → (ends_block p.instr ≡ true) ⊎ IsLeader program (end_of p)
    by_end true e = inl e
    by_end false e =
        let there = next program placed known k p at e in
        let within = slice_get_within placed (suc k) there.0 there.1 in
        absurd (omega (arith, within, past))
longer program placed known k n p at (begun q at_q is) = ends p ((known.instructions.exact p).0 (k, at)) (by_end (ends_block p.instr) refl)
  where
    by_end : (b : Bool) → ends_block p.instr ≡ b → (ends_block p.instr ≡ true) ⊎ IsLeader program (end_of p)
    by_end true e = inl e
    by_end false e =
        let there = next program placed known k p at e in
        let first = there.1 in
        let same : q ≡ there.0 = cc in
        let level : q.address ≡ end_of p = ap (λ (x : Placed). x.address) same ∙ there.2 in
        inr (subst (IsLeader program) level is)
longer program placed known k n p at (open-end q at_q none stretch) =
    let by = joined program placed known k p q at at_q none in
    goes-on p ((known.instructions.exact p).0 (k, at)) by.0 (λ is. none (subst (IsLeader program) (sym by.1) is))
    (subst (λ a. IsStretch program a n) by.1 stretch)

-- one instruction is placed at an address
pub one_placed : (program : Program) (p q : Placed) → IsPlaced program p → IsPlaced program q → p.address ≡ q.address → p ≡ q
one_placed program p q one other level =
    one_instruction program q.address p q (subst (λ a. StandsAt program a p) level one.stands) other.stands

-- a stretch from an address has one length
stretch_once : (program : Program) (a b n m : ℕ) → IsStretch program a n → IsStretch program b m → a ≡ b → n ≡ m
stretch_once program a b n m (ends p is end) (ends q is_q end_q) level = refl
stretch_once program a b n m (ends p is end) (goes-on q is_q open_it none rest) level =
    let same = one_placed program p q is is_q level in
    absurd (elim end [
      | inl closed ↦ (let closed_q = subst (λ (x : Placed). ends_block x.instr ≡ true) same closed in cc)
      | inr leads_it ↦ none (subst (λ (x : Placed). IsLeader program (end_of x)) same leads_it)
    ])
stretch_once program a b n m (goes-on p is open_it none rest) (ends q is_q end) level =
    let same = one_placed program q p is_q is (sym level) in
    absurd (elim end [
      | inl closed ↦ (let closed_p = subst (λ (x : Placed). ends_block x.instr ≡ true) same closed in cc)
      | inr leads_it ↦ none (subst (λ (x : Placed). IsLeader program (end_of x)) same leads_it)
    ])
stretch_once program a b n m (goes-on {n = n'} p is open_it none rest) (goes-on {n = m'} q is_q open_q none_q rest_q) level =
    let same = one_placed program p q is is_q level in
    ap (λ k. suc k) (stretch_once program (end_of p) (end_of q) n' m' rest rest_q (ap end_of same))

-- ---- the blocks from a place on

-- these are the blocks that begin from a place of the instructions on, and so many instructions from there on are of none
pub record Made (program : Program) (placed : List Placed) (k : ℕ) (blocks : List Block) (count : ℕ) : Type 0 where
  pub each : (b : Block) → StandsIn blocks b → IsBlock program b
  pub all : (i : ℕ) (p : Placed) → k ≤ i → slice_get placed i ≡ Some p → IsLeader program p.address → (b : Block) × StandsIn blocks b × (b.first ≡ p.address)
  pub late : (i : ℕ) (p : Placed) (b : Block) → i < k → slice_get placed i ≡ Some p → StandsIn blocks b → p.address < b.first
  pub sorted : IsIncreasing (map (λ (b : Block). b.first) blocks)
  pub behind : Behind program placed k count

-- behind all instructions there is no block
pub made_none : (program : Program) (placed : List Placed) → Made program placed (length placed) [] 0
made_none program placed = record {
  each = λ b at. absurd (let none = at.1 in cc);
  all = λ i p le at is. absurd (let within = slice_get_within placed i p at in omega (arith, within, le));
  late = λ i p b less at in_it. absurd (let none = in_it.1 in cc);
  sorted = λ i j a b less one other. absurd (cc);
  behind = nothing (omega arith);
}

-- an instruction at which no block begins
pub made_longer : (program : Program) (placed : List Placed) → IsKnown program placed → (k : ℕ) (blocks : List Block) (count : ℕ) (p : Placed)
    → slice_get placed k ≡ Some p
    → (IsLeader program p.address → ⊥) → Made program placed (suc k) blocks count → Made program placed k blocks (suc count)
made_longer program placed known k blocks count p at none made = record {
  each = made.each;
  all = all_it;
  late = λ i q b less at_q in_it. made.late i q b (omega arith) at_q in_it;
  sorted = made.sorted;
  behind = open-end p at none (longer program placed known k count p at made.behind);
}
  where
    all_it : (i : ℕ) (q : Placed) → k ≤ i → slice_get placed i ≡ Some q → IsLeader program q.address → (b : Block) × StandsIn blocks b × (b.first ≡ q.address)
    all_it i q le at_q is = elim (cases_lt k i) [
      | inl more ↦ made.all i q (omega arith) at_q is
      | inr last ↦
          (let same : i ≡ k = omega arith in
          let here : slice_get placed k ≡ Some q = subst (λ j. slice_get placed j ≡ Some q) same at_q in
          let alike : q ≡ p = cc in
          absurd (none (subst (λ (x : Placed). IsLeader program x.address) alike is)))
    ]

-- an instruction at which one begins
pub made_begun : (program : Program) (placed : List Placed) → IsKnown program placed → (k : ℕ) (blocks : List Block) (count : ℕ) (p : Placed)
    → slice_get placed k ≡ Some p
    → IsLeader program p.address → Made program placed (suc k) blocks count → Made program placed k (record { first = p.address; count = suc count } ∷ blocks) 0
made_begun program placed known k blocks count p at is made = record {
  each = each_it;
  all = all_it;
  late = late_it;
  sorted = sorted_it;
  behind = begun p at is;
}
  where
    block : Block
    block = record { first = p.address; count = suc count }

    each_at : (i : ℕ) (b : Block) → slice_get (block ∷ blocks) i ≡ Some b → IsBlock program b
    each_at zero b here =
        let same : block ≡ b = cc in
        subst (IsBlock program) same (record { leader = is; stretch = longer program placed known k count p at made.behind })
    each_at (suc i) b here = made.each b (i, here)

    each_it : (b : Block) → StandsIn (block ∷ blocks) b → IsBlock program b
    each_it b in_it = each_at in_it.0 b in_it.1

    all_it : (i : ℕ) (q : Placed) → k ≤ i → slice_get placed i ≡ Some q → IsLeader program q.address
        → (b : Block) × StandsIn (block ∷ blocks) b × (b.first ≡ q.address)
    all_it i q le at_q is_q = elim (cases_lt k i) [
      | inl more ↦ (let old = made.all i q (omega arith) at_q is_q in (old.0, (suc old.1.0, old.1.1), old.2))
      | inr last ↦
          (let same : i ≡ k = omega arith in
          let here : slice_get placed k ≡ Some q = subst (λ j. slice_get placed j ≡ Some q) same at_q in
          let alike : p ≡ q = cc in
          (block, (zero, refl), ap (λ (x : Placed). x.address) alike))
    ]

    late_at : (j i : ℕ) (q : Placed) (b : Block) → i < k → slice_get placed i ≡ Some q → slice_get (block ∷ blocks) j ≡ Some b → q.address < b.first
    late_at zero i q b less at_q here =
        let same : block ≡ b = cc in
        subst (λ (x : Block). q.address < x.first) same (in_order program placed known i k q p less at_q at)
    late_at (suc j) i q b less at_q here = made.late i q b (omega arith) at_q (j, here)

    late_it : (i : ℕ) (q : Placed) (b : Block) → i < k → slice_get placed i ≡ Some q → StandsIn (block ∷ blocks) b → q.address < b.first
    late_it i q b less at_q in_it = late_at in_it.0 i q b less at_q in_it.1

    sorted_it : IsIncreasing (map (λ (b : Block). b.first) (block ∷ blocks))
    sorted_it i zero a b less one other = absurd (omega arith)
    sorted_it zero (suc j) a b less one other =
        let first : p.address ≡ a = cc in
        let from = from-map (λ (x : Block). x.first) blocks j b other in
        let below = made.late k p from.0 (omega arith) at (j, from.1) in
        omega (arith, first, below, from.2)
    sorted_it (suc i) (suc j) a b less one other = made.sorted i j a b (omega arith) one other

-- from the first instruction on these are all blocks
pub made_all : (program : Program) (placed : List Placed) → IsKnown program placed → (blocks : List Block) (count : ℕ)
    → Made program placed 0 blocks count → AreBlocks program blocks
made_all program placed known blocks count made = record { exact = λ b. (made.each b, has b); sorted = made.sorted }
  where
    has : (b : Block) → IsBlock program b → StandsIn blocks b
    has b is =
        let there = known.whole b.first (leader_reached program b.first is.leader) in
        let p = there.0 in
        let place = (known.instructions.exact p).1 there.1 in
        let found = made.all place.0 p (omega arith) place.1 (subst (IsLeader program) (sym there.2) is.leader) in
        let c = found.0 in
        let first : c.first ≡ b.first = found.2 ∙ there.2 in
        let same = stretch_once program c.first b.first c.count b.count (made.each c found.1).stretch is.stretch first in
        let alike : c ≡ b = (λ i. record { first = first i; count = same i }) in
        subst (StandsIn blocks) alike found.1

-- ---- a step of the loop

pub step_over : (program : Program) (placed : List Placed) (leaders : List ℕ) (blocks : List Block) (place count : ℕ) (d : Placed) (found : Bool)
    → 0 < place → place ≤ length placed
    → IsKnown program placed → AreJust (IsLeader program) leaders → found ≡ false
    → (IsIncreasing leaders → IsTrue found ↔ StandsIn leaders (get_or placed (place - 1) d).address)
    → Made program placed place (reverse blocks) count → Made program placed (place - 1) (reverse blocks) (count + 1)
step_over program placed leaders blocks place count d found some within known are not_it told made =
    let p = get_or placed (place - 1) d in
    let at : slice_get placed (place - 1) ≡ Some p = slice_get-get_or placed (place - 1) d (omega arith) in
    let before : place ≡ suc (place - 1) = omega arith in
    let more : suc count ≡ count + 1 = omega arith in
    let none : IsLeader program p.address → ⊥ = λ is. (let holds : IsTrue found = (told are.sorted).1 ((are.exact p.address).1 is) in absurd (cc)) in
    subst (λ n. Made program placed (place - 1) (reverse blocks) n) more
    (made_longer program placed known (place - 1) (reverse blocks) count p at none (subst (λ k. Made program placed k (reverse blocks) count) before made))

pub step_begun : (program : Program) (placed : List Placed) (leaders : List ℕ) (blocks more : List Block) (place count : ℕ) (d : Placed) (found : Bool)
    → 0 < place
    → place ≤ length placed → IsKnown program placed → AreJust (IsLeader program) leaders → found ≡ true
    → (IsIncreasing leaders → IsTrue found ↔ StandsIn leaders (get_or placed (place - 1) d).address)
    → more ≡ blocks ++ record { first = (get_or placed (place - 1) d).address; count = count + 1 } ∷ []
    → Made program placed place (reverse blocks) count → Made program placed (place - 1) (reverse more) 0
step_begun program placed leaders blocks more place count d found some within known are is_it told pushed made =
    let p = get_or placed (place - 1) d in
    let at : slice_get placed (place - 1) ≡ Some p = slice_get-get_or placed (place - 1) d (omega arith) in
    let before : place ≡ suc (place - 1) = omega arith in
    let longer_by : suc count ≡ count + 1 = omega arith in
    let is : IsLeader program p.address = (are.exact p.address).0 ((told are.sorted).0 is_it) in
    let block : Block = record { first = p.address; count = count + 1 } in
    let turned : block ∷ reverse blocks ≡ reverse more = sym (ap (λ (bs : List Block). reverse bs) pushed ∙ reverse-append blocks (block ∷ [])) in
    subst (λ bs. Made program placed (place - 1) bs 0) turned
    (subst (λ n. Made program placed (place - 1) (record { first = p.address; count = n } ∷ reverse blocks) 0) longer_by
    (made_begun program placed known (place - 1) (reverse blocks) count p at is (subst (λ k. Made program placed k (reverse blocks) count) before made)))
