-- The runs of all threads, one after another.
use Rattle.std.proofs.Common.{◌≡◌, ◌≢◌, ◌⊎◌, ⊎_elim, ℕ, zero, suc, ◌+◌, ◌<◌, ◌==◌, true, false, List, [], ◌∷◌, ◌++◌, length, Some, refl, sym, ap, ◌∙◌, subst, arith, inl, inr}
use Rattle.std.specs.Prelude.{slice_get, Ok, Err}
use Rattle.ev_graph.specs.declared.execution.Stack.{Stack}
use Rattle.ev_graph.specs.declared.execution.ThreadRun.{ThreadRun}
use Rattle.ev_graph.specs.Memory.{Fits}
use Rattle.behavior.specs.Tree.{Tree, Next}
use Rattle.a64_table.specs.Machine.{AThread}
use Rattle.elf_write.specs.declared.image.Image.{Image}
use Rattle.elf_write.specs.Image.{image_parts}
use Rattle.exec_text.specs.declared.exec_file.ExecFile.{ExecFile}
use Rattle.exec_text.specs.declared.exec_file.GivenThread.{GivenThread}
use Rattle.arm_replay.specs.declared.fault.ReplayFault.{ReplayFault}
use Rattle.arm_replay.specs.declared.fault.ReplayFault.TheVariants.{LayoutThreads, Layout, Run, NoMemory}
use Rattle.arm_replay.specs.Threads.{a64_start}
use Rattle.arm_replay.specs.Faults.{IsThreadReplay}
use Rattle.arm_replay.specs.Walking.{IsWalkFault}
use Rattle.arm_replay.specs.Replays.{thread_step, IsGiven, IsRunBy, AreRunsBy, IsFirstFaultBy, IsReplayFault, WalksTo}

-- there is an element at each place
pub get_some : {A : Type 0} (xs : List A) (j : ℕ) → j < length xs → (x : A) × (slice_get xs j ≡ Some x)
get_some [] j lt = absurd (omega (arith, lt))
get_some (x ∷ xs) zero lt = (x, refl)
get_some (x ∷ xs) (suc j) lt = get_some xs j (omega (arith, lt))

-- each thread before the next has a run
pub runs_before : (step : AThread → Tree (Next AThread)) (image : Image) (file : ExecFile) (runs : List ThreadRun) (k : ℕ) → length runs ≡ k → AreRunsBy step image file runs
    → (j : ℕ) → j < k → (thread : ThreadRun) × IsRunBy step image file j thread
runs_before step image file runs k many are j lt = let found = get_some runs j (omega (arith, many, lt)) in (found.0, are j found.0 found.1)

-- what a thread is given is one thing
pub run_by : (step : AThread → Tree (Next AThread)) (image : Image) (file : ExecFile) (k at : ℕ) (stack : Stack) (given : GivenThread) (thread : ThreadRun) → IsGiven image file k at stack given
    → IsThreadReplay step (a64_start k stack at) k given thread → IsRunBy step image file k thread
run_by step image file k at stack given thread is replay at' stack' given' is' =
    let same_at : at ≡ at' = (let one = is.begins in let two = is'.begins in cc) in
    let same_stack : stack ≡ stack' = (let one = is.stack_is in let two = is'.stack_is in cc) in
    let same_given : given ≡ given' = (let one = is.given_is in let two = is'.given_is in cc) in
    subst (λ a. IsThreadReplay step (a64_start k stack' a) k given' thread) same_at
    (subst (λ s. IsThreadReplay step (a64_start k s at) k given' thread) same_stack
    (subst (λ g. IsThreadReplay step (a64_start k stack at) k g thread) same_given replay))

last_cases : {A : Type 0} (xs : List A) (x y : A) (j : ℕ) → slice_get (xs ++ x ∷ []) j ≡ Some y → (slice_get xs j ≡ Some y) ⊎ ((j ≡ length xs) × (x ≡ y))
last_cases [] x y zero here = inr (refl, cc)
last_cases [] x y (suc j) here = absurd (cc)
last_cases (z ∷ xs) x y zero here = inl here
last_cases (z ∷ xs) x y (suc j) here =
    ⊎_elim (λ (first : slice_get xs j ≡ Some y). inl first) (λ (last : (j ≡ length xs) × (x ≡ y)). inr (ap suc last.0, last.1)) (last_cases xs x y j here)

-- one run more
pub runs_more : (step : AThread → Tree (Next AThread)) (image : Image) (file : ExecFile) (runs : List ThreadRun) (k : ℕ) (run : ThreadRun) → length runs ≡ k → IsRunBy step image file k run
    → AreRunsBy step image file runs → AreRunsBy step image file (runs ++ run ∷ [])
runs_more step image file runs k run many is are j thread here =
    ⊎_elim (λ (first : slice_get runs j ≡ Some thread). are j thread first)
    (λ (last : (j ≡ length runs) × (run ≡ thread)).
    let place : k ≡ j = sym many ∙ sym last.0 in
    subst (λ j. IsRunBy step image file j thread) place (subst (λ t. IsRunBy step image file k t) last.1 is)) (last_cases runs run thread j here)

-- the first fault of a thread, behind threads that have runs
pub walk_fault : (step : AThread → Tree (Next AThread)) (image : Image) (file : ExecFile) (k at : ℕ) (stack : Stack) (given : GivenThread) (fault : ReplayFault) → IsGiven image file k at stack given
    → ((j : ℕ) → j < k → (thread : ThreadRun) × IsRunBy step image file j thread) → IsWalkFault step (a64_start k stack at) k given fault → WalksTo step image file (Err fault)
walk_fault step image file k at stack given (Run place) is before fault =
    subst (λ k. IsFirstFaultBy step image file k place.item place.kind) (sym fault.0)
    (record { before = before; at = at; stack = stack; given = given; is_given = is; fault = fault.1 })
walk_fault step image file k at stack given NoMemory is before fault = tt
walk_fault step image file k at stack given LayoutThreads is before fault = absurd fault
walk_fault step image file k at stack given (Layout j) is before fault = absurd fault

-- on the machine of the image
pub walks_fault : (step : AThread → Tree (Next AThread)) (image : Image) (file : ExecFile) (fault : ReplayFault) → step ≡ thread_step image file.stacks
    → Fits (image_parts image) (length image.threads) file.stacks → WalksTo step image file (Err fault) → IsReplayFault image file fault
walks_fault step image file (Run place) same fits walks = (fits, subst (λ step. IsFirstFaultBy step image file place.thread place.item place.kind) same walks)
walks_fault step image file NoMemory same fits walks = tt
walks_fault step image file LayoutThreads same fits walks = absurd walks
walks_fault step image file (Layout k) same fits walks = absurd walks
