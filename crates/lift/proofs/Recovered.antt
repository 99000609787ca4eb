-- The instructions of a block of recovered code stand one behind the other in the code's list, and are lifted.
use Rattle.std.proofs.Common.{◌≡◌, ◌<◌, ◌≤◌, ◌+◌, ℕ, zero, suc, Bool, true, false, List, [], ◌∷◌, length, take, drop, map, get_or, ◌⊎◌, inl, inr, Some, refl, sym, ap, subst, ◌∙◌, arith, ltb}
use Rattle.std.specs.Prelude.{if◌then◌else◌, slice_get}
use Rattle.std.specs.Option.{option_map}
use Rattle.std.specs.List.{AllByRecursion}
use Rattle.std.specs.List.Sorted.{IsPartitionPoint, IsNonDecreasingBy}
use Rattle.std.proofs.lemmas.Bool.{cases_lt, ltb-true, ltb-false}
use Rattle.std.proofs.lemmas.List.{length-map}
use Rattle.std.proofs.lemmas.Option.{slice_get_within, slice_get-get_or, slice_get-map, get_or_from_slice_get}
use Rattle.ev_graph.specs.Places.{StandsIn, IsDistinct}
use Rattle.x64_syntax.specs.Formed.{IsFlowOf}
use Rattle.x64_syntax.specs.declared.instr.Instr.{Instr}
use Rattle.x64_syntax.specs.declared.instr.Instr.TheVariants as instr
use Rattle.x64_syntax.specs.declared.placed.Flow.TheVariants as flow
use Rattle.x64_syntax.specs.declared.placed.Placed.{Placed}
use Rattle.elf_read.specs.Elf.{IsSegment}
use Rattle.elf_read.specs.declared.fault.FileFault.TheVariants.{TooMuchCode, Indirect, Overlap}
use Rattle.code_at.specs.Code.{Program, target_from, flow_of, is_at}
use Rattle.code_at.proofs.CallerLemmas.{some_length, ends_low, is_formed}
use Rattle.cfg_walk.specs.declared.code.Block.{Block}
use Rattle.cfg_walk.specs.declared.code.Code.{Code}
use Rattle.cfg_walk.specs.Reach.{IsReached, IsPlaced, end_of}
use Rattle.cfg_walk.specs.Faults.{code_limit, is_indirect}
use Rattle.cfg_walk.proofs.CallerLemmas.{many_reached}
use Rattle.cfg_walk.specs.Blocks.{IsStretch, BeginAt, Follow, AreOf}
use Rattle.cfg_walk.specs.Blocks.IsStretch.{ends, goes-on}
use Rattle.cfg_walk.specs.Code.{IsIncreasing, IsCodeOf}
use Rattle.lift_alu.specs.Built.{is_lifted}
use Rattle.lift_alu.specs.Meant.{after}
use Rattle.lift.specs.Block.{LeadOn, IsLifted, AreLifted}
use Rattle.lift.specs.Block as lift
use Rattle.lift.specs.Recovered.{IsRecovered, IsBlockAt, AreOfBlock}

abbrev address_of : Placed → ℕ
address_of p = p.address

-- ---- lists

-- what is read at a place of a list begins the rest of it
pub drop_from : {A : Type 0} (xs : List A) (k : ℕ) (x : A) → slice_get xs k ≡ Some x → drop k xs ≡ x ∷ drop (suc k) xs
drop_from [] k x at = absurd (cc)
drop_from (y ∷ ys) zero x at = cc
drop_from (y ∷ ys) (suc k) x at = drop_from ys k x at

pub some_same : {A : Type 0} {x y : A} → Some x ≡ Some y → x ≡ y
some_same e = cc

-- an address of a list is that of an instruction at its place
of_map : (ps : List Placed) (k a : ℕ) → slice_get (map (λ (p : Placed). p.address) ps) k ≡ Some a → (p : Placed) × (slice_get ps k ≡ Some p) × (p.address ≡ a)
of_map [] k a at = absurd (cc)
of_map (p ∷ ps) zero a at = (p, refl, some_same at)
of_map (p ∷ ps) (suc k) a at = of_map ps k a at

-- ---- instructions in order

module _ (placed : List Placed) (sorted : IsIncreasing (map (λ (p : Placed). p.address) placed)) where
  -- an instruction's address, in the list of them
  pub there : (i : ℕ) (p : Placed) → slice_get placed i ≡ Some p → slice_get (map (λ (p : Placed). p.address) placed) i ≡ Some p.address
  there i p at = slice_get-map (λ (p : Placed). p.address) placed i ∙ ap (option_map (λ (p : Placed). p.address)) at

  -- addresses rise with places
  rises : (i j : ℕ) (p q : Placed) → i < j → slice_get placed i ≡ Some p → slice_get placed j ≡ Some q → p.address < q.address
  rises i j p q less at other = sorted i j p.address q.address less (there i p at) (there j q other)

  -- and places with addresses
  pub earlier : (i j : ℕ) (p q : Placed) → slice_get placed i ≡ Some p → slice_get placed j ≡ Some q → p.address < q.address → i < j
  earlier i j p q at other less = by (cases_lt i j) (cases_lt j i)
    where
      by : (i < j) ⊎ (j ≤ i) → (j < i) ⊎ (i ≤ j) → i < j
      by (inl before) either = before
      by (inr le) (inl before) = let down = rises j i q p before other at in absurd (omega (arith, less, down))
      by (inr le) (inr ge) =
          let same : i ≡ j = omega (arith, ge, le) in
          let one : p ≡ q = some_same (sym at ∙ ap (slice_get placed) same ∙ other) in
          absurd (let address : p.address ≡ q.address = ap address_of one in omega (arith, less, address))

  -- one instruction stands at an address
  same_place : (i j : ℕ) (p q : Placed) → slice_get placed i ≡ Some p → slice_get placed j ≡ Some q → p.address ≡ q.address → i ≡ j
  same_place i j p q at other same = by (cases_lt i j) (cases_lt j i)
    where
      by : (i < j) ⊎ (j ≤ i) → (j < i) ⊎ (i ≤ j) → i ≡ j
      by (inl before) either = absurd (let up = rises i j p q before at other in omega (arith, same, up))
      by (inr le) (inl before) = absurd (let up = rises j i q p before other at in omega (arith, same, up))
      by (inr le) (inr ge) = omega (arith, le, ge)

  -- the place that a search finds is that of the instruction at the address
  pub found_place : (address place k : ℕ) (p : Placed)
      → IsPartitionPoint (λ (y : Placed). ltb y.address address ≡ true) (λ (y : Placed). ltb y.address address ≡ false) placed place
      → slice_get placed k ≡ Some p → p.address ≡ address → place ≡ k
  found_place address place k p (low, high) at is = by (cases_lt k place) (cases_lt place k)
    where
      within : k < length placed
      within = slice_get_within placed k p at

      by : (k < place) ⊎ (place ≤ k) → (place < k) ⊎ (k ≤ place) → place ≡ k
      by (inl less) either =
          let test = low k p (omega arith) less in
          let same = get_or_from_slice_get placed k p p at in
          absurd (let below = ltb-true _ _ (subst (λ (y : Placed). ltb y.address address ≡ true) same test) in omega (arith, below, is))
      by (inr le) (inl less) =
          let r = get_or placed place p in
          let here : slice_get placed place ≡ Some r = slice_get-get_or placed place p (omega (arith, less, within)) in
          let not_below = ltb-false _ _ (high place p le_self (omega (arith, less, within))) in
          absurd (let up = rises place k r p less here at in omega (arith, up, not_below, is))
        where
          le_self : place ≤ place
          le_self = omega arith
      by (inr le) (inr ge) = omega (arith, le, ge)

-- they rise for a search
pub rising_places : (placed : List Placed) → IsIncreasing (map (λ (p : Placed). p.address) placed) → IsNonDecreasingBy (λ (p : Placed). p.address) placed
rising_places placed sorted i j d le less = by (cases_lt i j)
  where
    at : (k : ℕ) → k < length placed → slice_get placed k ≡ Some (get_or placed k d)
    at k within = slice_get-get_or placed k d within

    by : (i < j) ⊎ (j ≤ i) → (get_or placed i d).address ≤ (get_or placed j d).address
    by (inl before) = let up = rises placed sorted i j _ _ before (at i (omega (arith, before, less))) (at j less) in omega (arith, up)
    by (inr ge) = let same : i ≡ j = omega (arith, le, ge) in subst (λ k. (get_or placed i d).address ≤ (get_or placed k d).address) same (omega arith)

-- ---- each instruction is lifted

-- what is no indirect call or jump is lifted
direct_lifted : (i : Instr) → is_indirect i ≡ false → is_lifted i ≡ true
direct_lifted (instr.CallInd to) direct = absurd (cc)
direct_lifted (instr.JmpInd to) direct = absurd (cc)
direct_lifted i direct = refl

-- a call or a jump fits each flow that a listed address has
call_fits : (d : ℕ) (one two : Bool) → IsFlowOf (instr.Call d) (if one then flow.ListedIn else (if two then flow.ListedOut else flow.Plain))
call_fits d true two = tt
call_fits d false true = tt
call_fits d false false = tt

jump_fits : (d : ℕ) (one two : Bool) → IsFlowOf (instr.Jmp d) (if one then flow.ListedIn else (if two then flow.ListedOut else flow.Plain))
jump_fits d true two = tt
jump_fits d false true = tt
jump_fits d false false = tt

-- the flow that an instruction has fits it
fits : (program : Program) (end : ℕ) (i : Instr) → IsFlowOf i (flow_of program end i)
fits program end (instr.Call d) = let to = target_from end d in call_fits d (is_at program.input to) (is_at program.output to)
fits program end (instr.Jmp d) = let to = target_from end d in jump_fits d (is_at program.input to) (is_at program.output to)
fits program end i = tt

-- ---- blocks

-- the instructions of a stretch, of which none but the last ends a block
pub record IsRun (program : Program) (from count : ℕ) : Type 0 where
  pub p : Placed
  pub ps : List Placed
  pub many : length (p ∷ ps) ≡ count
  pub first : p.address ≡ from
  pub follow : Follow (p ∷ ps)
  pub lead_on : LeadOn (p ∷ ps)
  pub each : AllByRecursion (IsPlaced program) (p ∷ ps)

run_of : (program : Program) (first count : ℕ) → IsStretch program first count → IsRun program first count
run_of program first count (ends p is ending) = record { p = p; ps = []; many = refl; first = refl; follow = tt; lead_on = tt; each = (is, tt) }
run_of program first count (goes-on {n} p is open_it more rest) =
    let run = run_of program (end_of p) n rest in
    record { p = p; ps = run.p ∷ run.ps; many = ap suc run.many; first = refl; follow = (run.first, run.follow); lead_on = (open_it, run.lead_on); each = (is, run.each) }

module _ (program : Program) (code : Code) (is : IsCodeOf program code) where
  -- there are no more instructions than there is code
  pub few_placed : length code.placed ≤ 65536
  few_placed = by (cases_lt code_limit (length code.placed))
    where
      addresses : List ℕ
      addresses = map (λ (p : Placed). p.address) code.placed

      reached : (a : ℕ) → StandsIn addresses a → IsReached program a
      reached a (k, at) =
          let (p, there, same) = of_map code.placed k a at in
          subst (IsReached program) same ((is.placed.exact p).0 (k, there)).reached

      once : IsDistinct addresses
      once i j x at other = by_order (cases_lt i j) (cases_lt j i)
        where
          by_order : (i < j) ⊎ (j ≤ i) → (j < i) ⊎ (i ≤ j) → i ≡ j
          by_order (inl less) either = absurd (let up = is.placed.sorted i j x x less at other in omega (arith, up))
          by_order (inr le) (inl less) = absurd (let up = is.placed.sorted j i x x less other at in omega (arith, up))
          by_order (inr le) (inr ge) = omega (arith, le, ge)

      by : (code_limit < length code.placed) ⊎ (length code.placed ≤ code_limit) → length code.placed ≤ 65536
      by (inr le) = omega (arith, le)
      by (inl less) =
          let long = length-map code.placed (λ (p : Placed). p.address) in
          absurd (is.clear TooMuchCode (omega arith) (omega arith) (many_reached program addresses reached once (omega (arith, long, less))))

module _ (program : Program) (code : Code) (segments : AllByRecursion IsSegment program.parts) (is : IsCodeOf program code) where
  -- it is lifted
  placed_lifted : (p : Placed) → IsPlaced program p → IsLifted p
  placed_lifted p placed =
      let formed = is_formed program p.address p placed.stands in
      record {
        formed = formed;
        lifted = direct_lifted p.instr (by (is_indirect p.instr) refl);
        flows = subst (IsFlowOf p.instr) (sym placed.stands.flows) (fits program (p.address + p.length) p.instr);
      }
    where
      by : (b : Bool) → is_indirect p.instr ≡ b → b ≡ false
      by true indirect = absurd (is.clear (Indirect p.address) (omega arith) (omega arith) (record { p = p; placed = placed; here = refl; indirect = indirect }))
      by false indirect = refl

  each_placed_lifted : (ps : List Placed) → AllByRecursion (IsPlaced program) ps → AllByRecursion IsLifted ps
  each_placed_lifted [] each = tt
  each_placed_lifted (p ∷ ps) each = (placed_lifted p each.0, each_placed_lifted ps each.1)

  -- instructions that follow one another do so modulo 2^64
  follows_on : (ps : List Placed) → AllByRecursion (IsPlaced program) ps → Follow ps → lift.Follow ps
  follows_on [] each follow = tt
  follows_on (p ∷ []) each follow = tt
  follows_on (p ∷ q ∷ ps) each follow = (behind p q each.0 follow.0, follows_on (q ∷ ps) each.1 follow.1)
    where
      behind : (p q : Placed) → IsPlaced program p → q.address ≡ end_of p → q.address ≡ after p
      behind p q placed next = let low = ends_low program p.address p segments placed.stands in omega (arith, next, low)

  -- the instruction behind another one stands at the next place
  next_place : (k : ℕ) (p q : Placed) → slice_get code.placed k ≡ Some p → StandsIn code.placed q → q.address ≡ end_of p → slice_get code.placed (suc k) ≡ Some q
  next_place k p q at (m, other) next = by (cases_lt (suc k) m)
    where
      long : 0 < p.length
      long = some_length program p.address p ((is.placed.exact p).0 (k, at)).stands

      later : k < m
      later = earlier code.placed is.placed.sorted k m p q at other (omega (arith, next, long))

      by : (suc k < m) ⊎ (m ≤ suc k) → slice_get code.placed (suc k) ≡ Some q
      by (inr le) = let same : m ≡ suc k = omega (arith, later, le) in sym (ap (slice_get code.placed) same) ∙ other
      by (inl less) =
          let r = get_or code.placed (suc k) p in
          let here : slice_get code.placed (suc k) ≡ Some r = slice_get-get_or code.placed (suc k) p (omega (arith, less, slice_get_within code.placed m q other)) in
          let above = rises code.placed is.placed.sorted k (suc k) p r (omega arith) at here in
          let below = rises code.placed is.placed.sorted (suc k) m r q less here other in
          absurd (is.clear (Overlap r.address) (omega arith) (omega arith) (record {
            p = r;
            placed = (is.placed.exact r).0 (suc k, here);
            here = refl;
            other = p;
            other_placed = (is.placed.exact p).0 (k, at);
            behind = above;
            inside = omega (arith, below, next);
          }))

  -- instructions that follow one another stand one behind the other in the list
  stand_on : (p : Placed) (ps : List Placed) (k : ℕ) → slice_get code.placed k ≡ Some p → Follow (p ∷ ps) → AllByRecursion (StandsIn code.placed) ps
      → take (length (p ∷ ps)) (drop k code.placed) ≡ p ∷ ps
  stand_on p [] k at follow each = ap (take 1) (drop_from code.placed k p at)
  stand_on p (q ∷ ps) k at follow each =
      ap (take (length (p ∷ q ∷ ps))) (drop_from code.placed k p at)
      ∙ ap (λ xs. p ∷ xs) (stand_on q ps (suc k) (next_place k p q at each.0 follow.0) follow.1 each.1)

  -- the list is as long as they need
  end_within : (p : Placed) (ps : List Placed) (k : ℕ) → slice_get code.placed k ≡ Some p → Follow (p ∷ ps) → AllByRecursion (StandsIn code.placed) ps
      → k + length (p ∷ ps) ≤ length code.placed
  end_within p [] k at follow each = let within = slice_get_within code.placed k p at in omega (arith, within)
  end_within p (q ∷ ps) k at follow each =
      let rest = end_within q ps (suc k) (next_place k p q at each.0 follow.0) follow.1 each.1 in
      omega (arith, rest)

  -- each instruction of a list stands in the code
  all_stand : (ps : List Placed) → AllByRecursion (IsPlaced program) ps → AllByRecursion (StandsIn code.placed) ps
  all_stand [] each = tt
  all_stand (p ∷ ps) each = ((is.placed.exact p).1 each.0, all_stand ps each.1)

  -- a block, whose first instruction stands at a place of the list
  module _ (b : Block) (in_code : StandsIn code.blocks b) where
    pub run : IsRun program b.first b.count
    run = run_of program b.first b.count ((is.blocks.exact b).0 in_code).stretch

    -- these are its instructions
    pub are_run : AreOf code.placed b (run.p ∷ run.ps)
    are_run = record { many = run.many; first = run.first; follow = run.follow; each = all_stand (run.p ∷ run.ps) run.each }

    module _ (place : ℕ) (there : (k : ℕ) (p : Placed) → slice_get code.placed k ≡ Some p → p.address ≡ b.first → place ≡ k) where
      -- instructions of the block are those from its place on
      pub those : (ps : List Placed) → AreOf code.placed b ps → ps ≡ take b.count (drop place code.placed)
      those [] are = absurd are.first
      those (p ∷ ps) are =
          let (k, at) = are.each.0 in
          let here : place ≡ k = there k p at are.first in
          sym (ap (λ n. take n (drop place code.placed)) (sym are.many) ∙ ap (λ n. take (length (p ∷ ps)) (drop n code.placed)) here ∙ stand_on p ps k at are.follow are.each.1)

      -- they end within the list
      pub within : place + b.count ≤ length code.placed
      within =
          let (k, at) = are_run.each.0 in
          let here : place ≡ k = there k run.p at run.first in
          let end = end_within run.p run.ps k at run.follow are_run.each.1 in
          omega (arith, here, end, run.many)

      -- and are lifted
      pub lifted : (ps : List Placed) → ps ≡ take b.count (drop place code.placed) → AreLifted ps
      lifted ps same = subst AreLifted (those (run.p ∷ run.ps) are_run ∙ sym same) (record {
        some = omega arith;
        few = omega (arith, within, run.many, few_placed program code is);
        each = each_placed_lifted (run.p ∷ run.ps) run.each;
        follow = follows_on (run.p ∷ run.ps) run.each run.follow;
        lead_on = run.lead_on;
      })

-- ---- the block of a number

-- the block of a number is one
same_block : (code : Code) (k : ℕ) (b c : Block) → IsBlockAt code k b → IsBlockAt code k c → b ≡ c
same_block code k b c one other = some_same (sym one ∙ other)

-- each block has instructions
pub instructions : (code : Code) (k : ℕ) → IsRecovered code → k < length code.blocks → (ps : List Placed) × AreOfBlock code k ps
instructions code k recovered below =
    let d : Block = record { first = 0; count = 0 } in
    let b = get_or code.blocks k d in
    let at : slice_get code.blocks k ≡ Some b = slice_get-get_or code.blocks k d below in
    (_, record { block = b; here = at; are = are_run recovered.program code recovered.is_program.segments recovered.is_code b (k, at) })

module _ (code : Code) (k : ℕ) (recovered : IsRecovered code) (b : Block) (at : IsBlockAt code k b) (place : ℕ)
    (there : (k : ℕ) (p : Placed) → slice_get code.placed k ≡ Some p → p.address ≡ b.first → place ≡ k) where
  -- its instructions are those from its place on
  pub block_those : (ps : List Placed) → AreOfBlock code k ps → ps ≡ take b.count (drop place code.placed)
  block_those ps are =
      those recovered.program code recovered.is_program.segments recovered.is_code b (k, at) place there ps
      (subst (λ (c : Block). AreOf code.placed c ps) (same_block code k are.block b are.here at) are.are)

  pub block_within : place + b.count ≤ length code.placed
  block_within = within recovered.program code recovered.is_program.segments recovered.is_code b (k, at) place there

  pub block_lifted : (ps : List Placed) → ps ≡ take b.count (drop place code.placed) → AreLifted ps
  block_lifted = lifted recovered.program code recovered.is_program.segments recovered.is_code b (k, at) place there

-- the instructions of a block are lifted, follow one another, and none but the last ends the block
pub are_lifted : (code : Code) (k : ℕ) → IsRecovered code → (ps : List Placed) → AreOfBlock code k ps → AreLifted ps
are_lifted code k recovered [] are = absurd are.are.first
are_lifted code k recovered (p ∷ ps) are =
    let (place, at) = are.are.each.0 in
    let there = λ (j : ℕ) (q : Placed) (other : slice_get code.placed j ≡ Some q) (is : q.address ≡ are.block.first).
    same_place code.placed recovered.is_code.placed.sorted place j p q at other (are.are.first ∙ sym is) in
    block_lifted code k recovered are.block are.here place there (p ∷ ps) (block_those code k recovered are.block are.here place there (p ∷ ps) are)

-- a block begins at the first of its instructions
pub block_first : (code : Code) (k : ℕ) (b : Block) (ps : List Placed) → IsBlockAt code k b → AreOfBlock code k ps → lift.first_of ps ≡ b.first
block_first code k b ps at are = begins ps (subst (λ (c : Block). AreOf code.placed c ps) (same_block code k are.block b are.here at) are.are).first
  where
    begins : (ps : List Placed) → BeginAt b.first ps → lift.first_of ps ≡ b.first
    begins [] first = absurd first
    begins (p ∷ ps) first = first

-- ---- as the code has it

module _ (code : Code) (k : ℕ) (recovered : IsRecovered code) (below : k < length code.blocks) (placed : List Placed) (blocks : List Block) (d : Block)
    (same_placed : placed ≡ code.placed) (same_blocks : blocks ≡ code.blocks) (place : ℕ)
    (there : (j : ℕ) (p : Placed) → slice_get placed j ≡ Some p → p.address ≡ (get_or blocks k d).first → place ≡ j) where
  block_here : IsBlockAt code k (get_or blocks k d)
  block_here = subst (λ bs. slice_get code.blocks k ≡ Some (get_or bs k d)) (sym same_blocks) (slice_get-get_or code.blocks k d below)

  there_too : (j : ℕ) (p : Placed) → slice_get code.placed j ≡ Some p → p.address ≡ (get_or blocks k d).first → place ≡ j
  there_too j p at is = there j p (subst (λ ps. slice_get ps j ≡ Some p) (sym same_placed) at) is

  rest_same : take (get_or blocks k d).count (drop place placed) ≡ take (get_or blocks k d).count (drop place code.placed)
  rest_same = ap (λ ps. take (get_or blocks k d).count (drop place ps)) same_placed

  pub found_within : place + (get_or blocks k d).count ≤ length placed
  found_within = subst (λ ps. place + (get_or blocks k d).count ≤ length ps) (sym same_placed) (block_within code k recovered (get_or blocks k d) block_here place there_too)

  pub found_lifted : (part : List Placed) → part ≡ take (get_or blocks k d).count (drop place placed) → AreLifted part
  found_lifted part is = block_lifted code k recovered (get_or blocks k d) block_here place there_too part (is ∙ rest_same)

  pub found_those : (part : List Placed) → part ≡ take (get_or blocks k d).count (drop place placed) → (ps : List Placed) → AreOfBlock code k ps → ps ≡ part
  found_those part is ps are = block_those code k recovered (get_or blocks k d) block_here place there_too ps are ∙ sym (is ∙ rest_same)
