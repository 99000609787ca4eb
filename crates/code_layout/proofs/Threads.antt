-- The threads of a program whose blocks are carried out do what the program's do.
use Rattle.std.proofs.Common.{◌≡◌, ◌≢◌, ℕ, ◌+◌, ◌*◌, List, sym, ap, ◌∙◌, subst, arith}
use Rattle.ev_graph.specs.Places.{StandsIn}
use Rattle.ev_graph.specs.declared.events.Item.{Item}
use Rattle.behavior.specs.Tree.{Tree, Begins, Next, ◌then◌}
use Rattle.behavior.specs.Acts.{Permission}
use Rattle.behavior.specs.Exits.{Exits, Arrived, lands}
use Rattle.behavior.specs.Seen.{lowered}
use Rattle.behavior.specs.Kept.{BackwardBy, ForwardBy, SameNext, Keeps, Through}
use Rattle.behavior.specs.Unfolds.{Unfolds}
use Rattle.behavior.proofs.SeenLemmas.{SeesByParts, IsCoarser}
use Rattle.behavior.proofs.KeepsLemmas.{keeps_through, keeps_wider, keeps_faster, keeps_coarser, keeps_first, next_through, next_wider}
use Rattle.a64_code.specs.declared.instr.XReg.{XReg}
use Rattle.a64_table.specs.State.{xregs, AState}
use Rattle.a64_table.specs.Machine.{AThread, a64_step}
use Rattle.a64_block.specs.Blocks.{a64_block}
use Rattle.a64_block.specs.declared.block.ABlock.{ABlock}
use Rattle.code_layout.specs.Places.{place_from, IsBegun}
use Rattle.code_layout.specs.Carried.{ArrivesAt, IsCarriedOut}
use Rattle.code_layout.proofs.Matched.{BlocksMatch, blocks_backward, blocks_forward}

-- A program of any machine has threads, each at an x86 address, and registers hold what a thread holds.

-- A thread of words stands at the place of the block at whose address the other is, and holds what it holds.
pub record StandsFor {S : Type 0} (address : S → ℕ) (Holds : S → AState → Type 0) (first : ℕ) (blocks : List (ABlock XReg)) (s : S) (t : AThread) : Type 0 where
  pub known : IsBegun blocks (address s)
  pub at : t.at ≡ place_from first blocks (address s)
  pub holds : Holds s t.state

-- a block has come to where a thread is, and holds what it holds
abbrev pub HasCome : {S : Type 0} → (S → ℕ) → (S → AState → Type 0) → S → Arrived AState → Type 0
HasCome address Holds s a = (a.at ≡ address s) × Holds s a.state

-- of X16, X17 and the number of the zero register nothing is said
abbrev pub IsFree : {S : Type 0} → (S → AState → Type 0) → Type 0
IsFree {S} Holds = (s : S) (t u : AState) → ((n : ℕ) → n ≢ 16 → n ≢ 17 → n ≢ 31 → u.regs n ≡ t.regs n) → Holds s t → Holds s u

-- From a state the program takes a block, of which the words at a place do what it does.
pub record MeansBlock {S : Type 0} (source : S → Tree (Next S)) (address : S → ℕ) (Holds : S → AState → Type 0) (exits : Exits) (seen : List Item → List Item) (rate extra : ℕ)
    (may : Permission) (place : ℕ) (b : ABlock XReg) (s : S) (t : AState) : Type 0 where
  pub of : Tree (Next S)
  pub unfolds : Unfolds source (source s) (Begins of)
  pub keeps : Keeps seen rate extra (SameNext (HasCome address Holds)) (Begins of) (a64_block xregs may place b.steps b.end t then lands exits)

module _ {S : Type 0} (source : S → Tree (Next S)) (address : S → ℕ) (Holds : S → AState → Type 0) (free : IsFree Holds) (exits : Exits) (most first : ℕ) (words : List ℕ) (blocks : List (ABlock XReg))
    (may : Permission) (seen : List Item → List Item) (sees : SeesByParts seen) (coarser : IsCoarser lowered seen) (rate extra : ℕ)
    (carried : (b : ABlock XReg) → StandsIn blocks b → (t : AState) → IsCarriedOut exits most first words blocks b may t)
    (means : (b : ABlock XReg) → StandsIn blocks b → (s : S) (t : AState) → address s ≡ b.first → Holds s t
    → MeansBlock source address Holds exits seen rate extra may (place_from first blocks b.first) b s t) where
  abbrev Same : S → AThread → Type 0
  Same s t = StandsFor address Holds first blocks s t

  come_through : (s : S) (t : AThread) → Through (HasCome address Holds) (ArrivesAt first blocks) s t → Same s t
  come_through s t (a, come, arrive) = record {
    known = subst (IsBegun blocks) come.0 arrive.known;
    at = arrive.at ∙ ap (place_from first blocks) come.0;
    holds = free s a.state t.state arrive.same come.1;
  }

  block_match : (b : ABlock XReg) → StandsIn blocks b → (s : S) (t : AState) → address s ≡ b.first → Holds s t
      → BlocksMatch seen (rate + (extra + most)) Same source (a64_step may first words) s (record { at = place_from first blocks b.first; state = t })
  block_match b stands s t here holds =
      let block = means b stands s t here holds in
      let own = carried b stands t in
      let both = keeps_through seen rate extra 1 most (SameNext (HasCome address Holds)) (SameNext (ArrivesAt first blocks)) block.keeps
      (keeps_coarser lowered seen 1 most (SameNext (ArrivesAt first blocks)) coarser own.keeps) in
      let whole = keeps_wider seen (1 * rate) (1 * extra + most) (extra + most) (Through (SameNext (HasCome address Holds)) (SameNext (ArrivesAt first blocks))) (SameNext Same) (omega arith)
      (λ a c there. next_wider come_through a c (next_through a c there)) both in
      record {
        of = block.of;
        to = own.does;
        source_unfolds = block.unfolds;
        target_unfolds = own.unfolds;
        keeps = keeps_first seen rate (extra + most) (SameNext Same) (keeps_faster seen (1 * rate) rate (extra + most) (SameNext Same) (omega arith) whole);
      }

  -- blocks match, wherever threads stand so
  pub threads_match : (s : S) (t : AThread) → StandsFor address Holds first blocks s t
      → BlocksMatch seen (rate + (extra + most)) (StandsFor address Holds first blocks) source (a64_step may first words) s t
  threads_match s t stands =
      let b = stands.known.0 in
      let here = stands.known.2 in
      let place : place_from first blocks b.first ≡ t.at = ap (place_from first blocks) here ∙ sym stands.at in
      subst (λ a. BlocksMatch seen (rate + (extra + most)) Same source (a64_step may first words) s (record { at = a; state = t.state })) place
      (block_match b stands.known.1 s t.state (sym here) stands.holds)

  -- each run of the words is matched by one of the program
  pub threads_backward : (s : S) (t : AThread) → StandsFor address Holds first blocks s t → BackwardBy seen source s (a64_step may first words) t
  threads_backward s t stands = blocks_backward seen sees (rate + (extra + most)) Same source (a64_step may first words) threads_match s t stands

  -- and each run of the program by one of the words, within the rate
  pub threads_forward : (s : S) (t : AThread) → StandsFor address Holds first blocks s t → ForwardBy seen (rate + (extra + most)) source s (a64_step may first words) t
  threads_forward s t stands = blocks_forward seen sees (rate + (extra + most)) Same source (a64_step may first words) threads_match s t stands
