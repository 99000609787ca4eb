-- The threads of an input and of its image: what each run of one has beside it in the other.
use Rattle.std.proofs.Common.{◌≡◌, ℕ, zero, suc, ◌+◌, ◌*◌, ◌-◌, ◌^◌, ◌<◌, ◌≤◌, ◌==◌, Bool, true, false, List, [], ◌∷◌, ◌++◌, length, Some, arith, sym, ◌∙◌, ap, refl, subst}
use Rattle.std.specs.Prelude.{if◌then◌else◌, slice_get, map}
use Rattle.std.specs.Option.{option_map}
use Rattle.std.specs.List.{AllByRecursion}
use Rattle.std.proofs.Math.Nat.{mul-le-mul_right}
use Rattle.std.proofs.lemmas.Option.{slice_get-map, slice_get_within}
use Rattle.ev_graph.specs.Places.{StandsIn}
use Rattle.ev_graph.specs.Memory.{IsStack, IsOffStacks}
use Rattle.ev_graph.specs.declared.execution.Stack.{Stack}
use Rattle.behavior.specs.Acts.{Permission}
use Rattle.behavior.specs.Kept.{Forward}
use Rattle.x64_syntax.specs.declared.slots.Slot.{Slot}
use Rattle.x64_table.specs.State.{Thread}
use Rattle.elf_read.specs.Elf.{IsSegment}
use Rattle.elf_read.specs.ElfFile.{segments_of, threads_of}
use Rattle.elf_write.specs.Image.{code_part, kept}
use Rattle.code_at.specs.Code.{program_in}
use Rattle.cfg_walk.specs.declared.code.Code.{Code}
use Rattle.cfg_walk.specs.Code.{IsFileCode}
use Rattle.cfg_walk.specs.Machine.{exits_of, thread_step}
use Rattle.fence_place.specs.Marked.{marked}
use Rattle.cfg_walk.proofs.CallerLemmas.{never_jumps_wrong}
use Rattle.fence_plan.specs.Planned.{FollowsPlan}
use Rattle.fence_plan.proofs.CallerLemmas.{bare}
use Rattle.a64_code.specs.declared.instr.XReg.{XReg}
use Rattle.a64_table.specs.State.{AState}
use Rattle.a64_table.specs.Machine.{AThread, a64_step}
use Rattle.a64_block.specs.declared.block.ABlock.{ABlock}
use Rattle.code_layout.specs.Carried.{IsCarriedOut}
use Rattle.code_layout.specs.Places.{place_from, IsBegun}
use Rattle.carry_spec.specs.Threads.{start_bank, x64_start, a64_start, allowed, OnThreads, OfEachThread}
use Rattle.carry_spec.specs.Carries.{EachFollowsPlan, NeverJumpsWrong}
use Rattle.translate_core.specs.Passed.{IsPassed}
use Rattle.translate_core.proofs.Accounted.{IsPlanned}
use Rattle.translate_core.proofs.Passes.{Alike}
use Rattle.translate_core.proofs.Permitted.{same_allowed}
use Rattle.translate_core.proofs.PlanOf.{plan_for, is_plan_for}
use Rattle.translate_core.proofs.ThreadCarried.{thread_planned, thread_forward}
use Rattle.translate_core.proofs.ThreadFollows.{StandsBeside, thread_follows}

-- an image is laid out of blocks of words that the passes made of an input's code, where these slots are private
pub record IsLaid (private : List Slot) (input image : List ℕ) (code : Code) (address : ℕ) (words : List ℕ) (blocks : List (ABlock XReg)) : Type 0 where
  pub is_code : IsFileCode input code
  pub segments : AllByRecursion IsSegment (segments_of input)
  pub few : length (threads_of input) ≤ 16
  pub parts : segments_of image ≡ kept (segments_of input) ++ code_part address words ∷ []
  pub threads : threads_of image ≡ map (place_from address blocks) (threads_of input)
  pub carried : (b : ABlock XReg) → StandsIn blocks b → (may : Permission) (t : AState) → IsCarriedOut (exits_of code) 122 address words blocks b may t
  pub passed : (b : ABlock XReg) → StandsIn blocks b → IsPassed private code b
  pub begun : (a : ℕ) → StandsIn (threads_of input) a → IsBegun blocks a

all_get : {A : Type 0} (P : A → Type 0) (xs : List A) (k : ℕ) (x : A) → AllByRecursion P xs → slice_get xs k ≡ Some x → P x
all_get P [] k x all e = absurd cc
all_get {A = A} P (y ∷ ys) zero x all e = subst P (same y x e) all.0
  where
    same : (y x : A) → Some y ≡ Some x → y ≡ x
    same y x e = cc
all_get P (y ∷ ys) (suc k) x all e = all_get P ys k x all.1 e

-- the registers of a thread at its start fit 64 bits
bank_fits : (k : ℕ) (stack : Stack) → k < 2 ^ 64 → IsStack stack → (n : ℕ) → start_bank k stack n < 2 ^ 64
bank_fits k stack low placed n = by_tests (n == 4) (n == 7)
  where
    by_tests : (a b : Bool) → (if a then stack.hi - 8 else (if b then k else 0)) < 2 ^ 64
    by_tests true b = omega (arith, placed.low_half)
    by_tests false true = low
    by_tests false false = omega arith

-- both threads hold the same at their start
start_alike : (k : ℕ) (stack : Stack) (from to : ℕ) → k < 2 ^ 64 → IsStack stack → Alike (x64_start k stack from) (a64_start k stack to).state
start_alike k stack from to low placed = record { same = λ n lt. refl; fit = λ n lt. bank_fits k stack low placed n; cf = refl; zf = refl; sf = refl; of = refl }

module _ (private : List Slot) (input image : List ℕ) (code : Code) (address : ℕ) (words : List ℕ) (blocks : List (ABlock XReg)) (laid : IsLaid private input image code address words blocks) where
  some_same : {A : Type 0} {x y : A} → Some x ≡ Some y → x ≡ y
  some_same e = cc

  -- a thread of the image begins at the place of the block at which the input's begins
  placed_at : (k from to : ℕ) → slice_get (threads_of input) k ≡ Some from → slice_get (threads_of image) k ≡ Some to → to ≡ place_from address blocks from
  placed_at k from to at_from at_to =
      some_same (sym at_to ∙ ap (λ ts. slice_get ts k) laid.threads ∙ slice_get-map (place_from address blocks) (threads_of input) k
      ∙ ap (option_map (place_from address blocks)) at_from)

  -- what holds of threads that stand beside one another holds of each thread of the input and of the image
  each_thread : (Claim : OnThreads)
      → ((may : Permission) (s : Thread) (t : AThread) → StandsBeside address blocks s t → Claim (thread_step may code) s (a64_step may address words) t)
      → OfEachThread input image code address words Claim
  each_thread Claim claim stacks fits k from to stack at_from at_to at_stack =
      let placed : IsStack stack = all_get IsStack stacks k stack fits.well_placed at_stack in
      let low : k < 2 ^ 64 = omega (arith, slice_get_within (threads_of input) k from at_from, laid.few) in
      let off : AllByRecursion (IsOffStacks stacks) (kept (segments_of input) ++ code_part address words ∷ []) = subst (AllByRecursion (IsOffStacks stacks)) laid.parts fits.off_parts in
      let may : Permission = allowed (segments_of input) stacks in
      let same : may ≡ allowed (segments_of image) stacks =
      sym (ap (λ ps. allowed ps stacks) laid.parts ∙ same_allowed (segments_of input) address words stacks off) in
      subst (λ m. Claim (thread_step may code) (x64_start k stack from) (a64_step m address words) (a64_start k stack to)) same
      (claim may (x64_start k stack from) (a64_start k stack to)
      (record { known = laid.begun from (k, at_from); at = placed_at k from to at_from at_to; holds = start_alike k stack from to low placed }))

  -- each run of the image's thread has one of the input's beside it, which with its planned fences is guarded
  pub each_planned : OfEachThread input image code address words (IsPlanned (marked private))
  each_planned =
      let plan = plan_for (marked private) code in
      let is_plan = is_plan_for (program_in input) code laid.is_code (marked private) in
      each_thread (IsPlanned (marked private))
      (λ may s t stands. thread_planned (program_in input) code laid.is_code laid.segments private plan is_plan may 122 address words blocks (λ b here t. laid.carried b here may t) laid.passed s t stands)

  -- and each run of the input's has one of the image's, which begins at most 256 words for each instruction
  pub each_forward : OfEachThread input image code address words (Forward 256)
  each_forward =
      let plan = plan_for (marked private) code in
      let is_plan = is_plan_for (program_in input) code laid.is_code (marked private) in
      each_thread (Forward 256)
      (λ may s t stands made end n run.
      let one = thread_forward (program_in input) code laid.is_code laid.segments private plan is_plan may 122 address words blocks (λ b here t. laid.carried b here may t) laid.passed s t stands made end n run in
      let few : (62 + (0 + 122)) * n ≤ 256 * n = mul-le-mul_right n (omega arith) in
      (one.0, one.1, one.2, one.3, omega (arith, one.4, few)))

  -- the image follows the plan
  pub each_follows_plan : EachFollowsPlan (marked private) input image code address words
  each_follows_plan plan is_plan =
      each_thread (FollowsPlan (marked private) (λ (s : Thread). plan s.at))
      (λ may s t stands. thread_follows (program_in input) code laid.is_code laid.segments private plan is_plan may 122 address words blocks (λ b here t. laid.carried b here may t) laid.passed s t stands)

  -- no run of either ends because it came to an address without an instruction
  pub each_never_jumps_wrong : OfEachThread input image code address words NeverJumpsWrong
  each_never_jumps_wrong =
      let plan = plan_for (marked private) code in
      let is_plan = is_plan_for (program_in input) code laid.is_code (marked private) in
      each_thread NeverJumpsWrong
      (λ may s t stands.
      let (b, here, first_is) = stands.known in
      let pass = laid.passed b here in
      let never = never_jumps_wrong (program_in input) code laid.segments laid.is_code may s (pass.block, pass.known, pass.first ∙ first_is) in (
        never,
        λ items end n run.
            let one = thread_planned (program_in input) code laid.is_code laid.segments private plan is_plan may 122 address words blocks (λ b here t. laid.carried b here may t) laid.passed s t stands items end n run in
            never (bare one.0) end one.1 one.2,
      ))
