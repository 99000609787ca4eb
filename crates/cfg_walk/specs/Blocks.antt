-- Where blocks begin and end, and which addresses are return sites and functions.
use Rattle.std.specs.Prelude.{◌≡◌, ◌⊎◌, ℕ, suc, Bool, true, false, List, [], ◌∷◌, length}
use Rattle.std.specs.List.{AllByRecursion}
use Rattle.ev_graph.specs.Places.{StandsIn}
use Rattle.x64_syntax.specs.declared.instr.Instr.{Instr}
use Rattle.x64_syntax.specs.declared.instr.Instr.TheVariants as instr
use Rattle.x64_syntax.specs.declared.placed.Flow.{Flow}
use Rattle.x64_syntax.specs.declared.placed.Flow.TheVariants as flow
use Rattle.x64_syntax.specs.declared.placed.Placed.{Placed}
use Rattle.code_at.specs.Code.{Program, target_from}
use Rattle.cfg_walk.specs.declared.code.Block.{Block}
use Rattle.cfg_walk.specs.Reach.{IsReached, IsPlaced, end_of, HasEntry}

-- the address in a list, where it belongs there
abbrev pub where_plain : Flow → ℕ → List ℕ
where_plain flow.Plain address = address ∷ []
where_plain f address = []

-- the target of a call, unless it is listed
abbrev pub called : Instr → Flow → (end : ℕ) → List ℕ
called (instr.Call displacement) f end = where_plain f (target_from end displacement)
called i f end = []

-- the address behind a call that is not listed, to which it returns
abbrev pub returned_to : Instr → Flow → (end : ℕ) → List ℕ
returned_to (instr.Call displacement) f end = where_plain f end
returned_to i f end = []

-- Where blocks begin for the sake of an instruction: at the target of a jump or a call, unless it is listed, and behind a
-- conditional jump and behind any call.
abbrev pub led : Instr → Flow → (end : ℕ) → List ℕ
led (instr.Jmp displacement) f end = where_plain f (target_from end displacement)
led (instr.Jcc condition displacement) f end = target_from end displacement ∷ end ∷ []
led (instr.Call displacement) flow.Plain end = target_from end displacement ∷ end ∷ []
led (instr.Call displacement) f end = end ∷ []
led i f end = []

-- a block begins at the address: a thread begins there, or it is an entry of a table, or an instruction leads there
pub data IsLeader (program : Program) : ℕ → Type 0 where
  at-entry : {a : ℕ} → StandsIn program.entries a → IsLeader program a
  at-table : {a b : ℕ} → IsReached program a → HasEntry program a b → IsLeader program b
  at-led : {b : ℕ} (p : Placed) → IsPlaced program p → StandsIn (led p.instr p.flow (end_of p)) b → IsLeader program b

-- whether a block ends with the instruction: a jump, a call, RET or UD2
abbrev pub ends_block : Instr → Bool
ends_block (instr.Jmp displacement) = true
ends_block (instr.Jcc condition displacement) = true
ends_block (instr.Call displacement) = true
ends_block (instr.CallInd to) = true
ends_block (instr.JmpInd to) = true
ends_block instr.Ret = true
ends_block instr.Ud2 = true
ends_block i = false

-- So many placed instructions stand one behind the other from an address on. With the last of them, and not before, a
-- block ends or another begins.
pub data IsStretch (program : Program) : (first count : ℕ) → Type 0 where
  ends : (p : Placed) → IsPlaced program p → ends_block p.instr ≡ true ⊎ IsLeader program (end_of p) → IsStretch program p.address 1
  goes-on : {n : ℕ} (p : Placed) → IsPlaced program p → ends_block p.instr ≡ false → (IsLeader program (end_of p) → ⊥)
      → IsStretch program (end_of p) n → IsStretch program p.address (suc n)

-- a block: it begins where blocks begin, and runs on until it ends or another begins
pub record IsBlock (program : Program) (block : Block) : Type 0 where
  pub leader : IsLeader program block.first
  pub stretch : IsStretch program block.first block.count

-- instructions of which the first begins at the address
abbrev pub BeginAt : ℕ → List Placed → Type 0
BeginAt a [] = ⊥
BeginAt a (p ∷ ps) = p.address ≡ a

-- each instruction begins where the one before it ends
abbrev pub Follow : List Placed → Type 0
Follow [] = Unit {0}
Follow (p ∷ []) = Unit {0}
Follow (p ∷ q ∷ ps) = (q.address ≡ end_of p) × Follow (q ∷ ps)

-- these are the instructions of a block: as many of those that are placed, one behind the other, from its first address on
pub record AreOf (placed : List Placed) (block : Block) (ps : List Placed) : Type 0 where
  pub many : length ps ≡ block.count
  pub first : BeginAt block.first ps
  pub follow : Follow ps
  pub each : AllByRecursion (StandsIn placed) ps

-- a return site: behind a placed call that is not listed
pub record IsSite (program : Program) (a : ℕ) : Type 0 where
  pub p : Placed
  pub placed : IsPlaced program p
  pub behind : StandsIn (returned_to p.instr p.flow (end_of p)) a

-- the target of a placed call that is not listed
pub record IsCalled (program : Program) (a : ℕ) : Type 0 where
  pub p : Placed
  pub placed : IsPlaced program p
  pub target : StandsIn (called p.instr p.flow (end_of p)) a

-- a function: where a thread begins, or what is called
abbrev pub IsFunction : Program → ℕ → Type 0
IsFunction program a = StandsIn program.entries a ⊎ IsCalled program a
