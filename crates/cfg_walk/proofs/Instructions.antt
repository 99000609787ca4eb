-- Each block has its instructions, which the list of placed instructions gives one behind the other.
use Rattle.std.proofs.Common.{◌≡◌, ℕ, suc, true, false, List, [], ◌∷◌, length, ◌⊎◌, refl, sym, ap, subst, ◌∙◌, arith}
use Rattle.std.specs.List.{AllByRecursion}
use Rattle.ev_graph.specs.Places.{StandsIn}
use Rattle.x64_syntax.specs.declared.placed.Placed.{Placed}
use Rattle.code_at.specs.Code.{Program}
use Rattle.cfg_walk.specs.declared.code.Block.{Block}
use Rattle.cfg_walk.specs.declared.code.Code.{Code}
use Rattle.cfg_walk.specs.Reach.{IsPlaced, end_of}
use Rattle.cfg_walk.specs.Blocks.{IsLeader, IsStretch, BeginAt, Follow, AreOf, ends_block}
use Rattle.cfg_walk.specs.Blocks.IsStretch.{ends, goes-on}
use Rattle.cfg_walk.specs.Code.{IsCodeOf}
use Rattle.cfg_walk.specs.Running.{BlocksHaveInstructions, and_behind, instructions_from, instructions_of}
use Rattle.cfg_walk.proofs.BlockLemmas.{one_placed}
use Rattle.cfg_walk.proofs.Found.{threads_find}

-- the instructions of a stretch, with the last of which, and not before, a block ends or another begins
abbrev pub AreStretch : Program → List Placed → Type 0
AreStretch program [] = ⊥
AreStretch program (p ∷ []) = IsPlaced program p × (ends_block p.instr ≡ true ⊎ IsLeader program (end_of p))
AreStretch program (p ∷ q ∷ ps) = IsPlaced program p × (ends_block p.instr ≡ false) × (q.address ≡ end_of p) × AreStretch program (q ∷ ps)

-- ---- the list of a stretch

-- a list of instructions is that of a stretch from an address
pub record IsListOf (program : Program) (placed : List Placed) (a n : ℕ) (ps : List Placed) : Type 0 where
  pub are : AreOf placed (record { first = a; count = n }) ps
  pub stretch : AreStretch program ps

-- an instruction before a stretch that follows it
list_longer : (program : Program) (code : Code) → IsCodeOf program code → (p : Placed) (n : ℕ) (ps : List Placed) → IsPlaced program p → ends_block p.instr ≡ false
    → IsListOf program code.placed (end_of p) n ps → IsListOf program code.placed p.address (suc n) (p ∷ ps)
list_longer program code is p n [] placed open_it list = absurd list.stretch
list_longer program code is p n (q ∷ qs) placed open_it list = record {
  are = record {
    many = (let many = list.are.many in omega (arith, many));
    first = refl;
    follow = (list.are.first, list.are.follow);
    each = ((is.placed.exact p).1 placed, list.are.each);
  };
  stretch = (placed, open_it, list.are.first, list.stretch);
}

-- what is listed from an address on is the list of the stretch there
listed : (program : Program) (code : Code) → IsCodeOf program code → (a n : ℕ) → IsStretch program a n
    → IsListOf program code.placed a n (instructions_from code.placed n a)
listed program code is a n (ends p placed end) =
    let found = ((threads_find program code is).placed p.address p).1 (placed, refl) in
    let same : instructions_from code.placed 1 p.address ≡ p ∷ [] = ap (λ o. and_behind o (λ q. instructions_from code.placed 0 (end_of q))) found in
    subst (IsListOf program code.placed p.address 1) (sym same) (record {
      are = record { many = refl; first = refl; follow = tt; each = ((is.placed.exact p).1 placed, tt) };
      stretch = (placed, end);
    })
listed program code is a n (goes-on {n = m} p placed open_it none rest) =
    let found = ((threads_find program code is).placed p.address p).1 (placed, refl) in
    let same : instructions_from code.placed (suc m) p.address ≡ p ∷ instructions_from code.placed m (end_of p) =
    ap (λ o. and_behind o (λ q. instructions_from code.placed m (end_of q))) found in
    subst (IsListOf program code.placed p.address (suc m)) (sym same)
    (list_longer program code is p m (instructions_from code.placed m (end_of p)) placed open_it (listed program code is (end_of p) m rest))

-- ---- there is only one

-- the first of the instructions, if there is one, begins at the address
abbrev Starts : ℕ → List Placed → Type 0
Starts a [] = Unit {0}
Starts a (p ∷ ps) = p.address ≡ a

starts_first : (a : ℕ) (ps : List Placed) → BeginAt a ps → Starts a ps
starts_first a [] begin = tt
starts_first a (p ∷ ps) begin = begin

starts_behind : (p : Placed) (ps : List Placed) → Follow (p ∷ ps) → Starts (end_of p) ps × Follow ps
starts_behind p [] follow = (tt, tt)
starts_behind p (q ∷ qs) follow = (follow.0, follow.1)

one_list : (program : Program) (code : Code) → IsCodeOf program code → (a : ℕ) (ps qs : List Placed) → length ps ≡ length qs → Starts a ps → Starts a qs
    → Follow ps → Follow qs → AllByRecursion (StandsIn code.placed) ps → AllByRecursion (StandsIn code.placed) qs → ps ≡ qs
one_list program code is a [] [] many first other follow follows each all = refl
one_list program code is a [] (q ∷ qs) many first other follow follows each all = absurd (omega (arith, many))
one_list program code is a (p ∷ ps) [] many first other follow follows each all = absurd (omega (arith, many))
one_list program code is a (p ∷ ps) (q ∷ qs) many first other follow follows each all =
    let same : p ≡ q = one_placed program p q ((is.placed.exact p).0 each.0) ((is.placed.exact q).0 all.0) (first ∙ sym other) in
    let rest = starts_behind p ps follow in
    let rests = starts_behind q qs follows in
    let behind : Starts (end_of p) qs = subst (λ (x : Placed). Starts (end_of x) qs) (sym same) rests.0 in
    let same_rest : ps ≡ qs = one_list program code is (end_of p) ps qs (omega (arith, many)) rest.0 behind rest.1 rests.1 each.1 all.1 in
    λ k. same k ∷ same_rest k

pub one_of_block : (program : Program) (code : Code) → IsCodeOf program code → (b : Block) (ps qs : List Placed) → AreOf code.placed b ps → AreOf code.placed b qs → ps ≡ qs
one_of_block program code is b ps qs one other =
    one_list program code is b.first ps qs (one.many ∙ sym other.many) (starts_first b.first ps one.first) (starts_first b.first qs other.first)
    one.follow other.follow one.each other.each

-- ---- the instructions of a block

pub block_listed : (program : Program) (code : Code) → IsCodeOf program code → (b : Block) → StandsIn code.blocks b
    → IsListOf program code.placed b.first b.count (instructions_of code b)
block_listed program code is b at = listed program code is b.first b.count ((is.blocks.exact b).0 at).stretch

pub have_instructions : BlocksHaveInstructions
have_instructions program code is b at =
    let list = block_listed program code is b at in
    record { ps = instructions_of code b; are = list.are; only = λ qs are. one_of_block program code is b qs (instructions_of code b) are list.are }

-- whatever list of a block's instructions is given, it is a stretch
pub block_stretch : (program : Program) (code : Code) → IsCodeOf program code → (b : Block) (ps : List Placed) → StandsIn code.blocks b → AreOf code.placed b ps → AreStretch program ps
block_stretch program code is b ps at are =
    let list = block_listed program code is b at in
    subst (AreStretch program) (one_of_block program code is b (instructions_of code b) ps list.are are) list.stretch
