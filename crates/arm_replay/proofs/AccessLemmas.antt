-- How large the accesses of an image's threads are, and where they end.
use Rattle.std.proofs.Common.{◌≡◌, ℕ, zero, suc, ◌+◌, ◌*◌, ◌%◌, ◌^◌, ◌<◌, ◌≤◌, ◌==◌, ◌&&◌, Bool, true, false, not, cond, nat_lt, List, [], ◌∷◌, Option, Some, None, length, refl, sym, subst, arith, inl, inr}
use Rattle.std.specs.Prelude.{ℤ, pos, slice_get, if◌then◌else◌}
use Rattle.std.specs.List.{AllByRecursion}
use Rattle.std.specs.Option.{option_and_then}
use Rattle.std.proofs.lemmas.Bool.Decides.{nat_tests}
use Rattle.ev_graph.specs.declared.events.Access.{Access}
use Rattle.ev_graph.specs.declared.events.AccessKind.TheVariants.{Read}
use Rattle.ev_graph.specs.declared.events.End.{End}
use Rattle.ev_graph.specs.declared.events.End.TheVariants.{Halted}
use Rattle.ev_graph.specs.declared.events.Item.{Item}
use Rattle.ev_graph.specs.declared.events.Item.TheVariants as items
use Rattle.ev_graph.specs.declared.events.TrapKind.TheVariants.{BadAccess, Divide, Invalid, BadReturn, BadJump}
use Rattle.ev_graph.specs.declared.execution.Stack.{Stack}
use Rattle.ev_graph.specs.Events.{accesses}
use Rattle.ev_graph.specs.Memory.{Cell, permits, allows, Fits}
use Rattle.ev_graph.specs.Start.{with_stacks}
use Rattle.behavior.specs.Tree.{Tree, Gives, Acts, Next, Stops}
use Rattle.behavior.specs.Acts.{Permission, goes, traps, access, locked_write, exchanges, takes_in, puts_out}
use Rattle.behavior.specs.Run.{Run}
use Rattle.behavior.specs.Numbered.{numbered}
use Rattle.behavior.proofs.Makes.{AllMakes, run_makes, makes_then, makes_choice, makes_reads, makes_writes}
use Rattle.behavior.proofs.NumberedLemmas.{all-numbered}
use Rattle.a64_code.specs.declared.instr.XReg.{XReg}
use Rattle.a64_code.specs.declared.instr.A64.{A64}
use Rattle.a64_code.specs.declared.instr.A64.TheVariants.{Subs, B, BCond, Cbz, Cbnz, Ldr, Str, Cas, Swp, Ldadd, Ldclr, Ldeor, Ldset, DmbFull, DmbLd, DmbSt, Brk, Svc}
use Rattle.a64_code.specs.Decoding.{a64_of}
use Rattle.a64_code.specs.Ranges.{IsSize, IsEncodable}
use Rattle.a64_code.proofs.CallerLemmas.{spelled}
use Rattle.a64_table.specs.declared.state.Nzcv.{Nzcv}
use Rattle.a64_table.specs.declared.state.Done.{Done}
use Rattle.a64_table.specs.State.{xregs, value, after, moved}
use Rattle.a64_table.specs.Values.{low, holds, a64_value}
use Rattle.a64_table.specs.Rows.{gets, jumps, branches, breaks, calls, computes_or, a64_written, a64_act, a64_row, a64_result}
use Rattle.a64_table.specs.Machine.{AThread, word_at, a64_take, a64_step}
use Rattle.elf_write.specs.declared.image.Image.{Image}
use Rattle.elf_write.specs.Image.{image_cells, image_parts, IsImage}
use Rattle.arm_replay.specs.Memories.{low_cells}
use Rattle.arm_replay.specs.Replays.{thread_step}
use Rattle.arm_replay.proofs.MemoryLemmas.{permits_none, low_same}

-- an access has 1 to 8 bytes, and ends within the addresses of 64 bits
pub record IsSized (address size : ℕ) : Type 0 where
  pub some : 1 ≤ size
  pub few : size ≤ 8
  pub ends : address + size ≤ 2 ^ 64

-- where an item is an access, it does
abbrev pub IsSizedItem : Item → Type 0
IsSizedItem (items.Access a) = IsSized a.address a.size
IsSizedItem (items.Fence f) = Unit {0}
IsSizedItem (items.Input t) = Unit {0}
IsSizedItem (items.Output t) = Unit {0}

-- ---- what is permitted ends within the addresses of 64 bits

both_left : (a b : Bool) → (a && b) ≡ true → a ≡ true
both_left true b h = refl
both_left false b h = h

both_right : (a b : Bool) → (a && b) ≡ true → b ≡ true
both_right true b h = h
both_right false b h = absurd cc

last_allowed : (cells : ℕ → Option Cell) (write : Bool) (address size : ℕ) → allows cells write address (suc size) ≡ true → permits write (cells (address + size)) ≡ true
unfolding allows
last_allowed cells write address zero h =
    let e : address ≡ address + 0 = omega arith in
    subst (λ n. permits write (cells n) ≡ true) e (both_left (permits write (cells address)) (allows cells write (address + 1) 0) h)
last_allowed cells write address (suc size) h =
    let e : address + 1 + size ≡ address + suc size = omega arith in
    subst (λ n. permits write (cells n) ≡ true) e
    (last_allowed cells write (address + 1) size (both_right (permits write (cells address)) (allows cells write (address + 1) (suc size)) h))

differs : (b : Bool) → b ≡ false → b ≡ true → ⊥
differs b first second = absurd cc

low_permitted : (image : Image) (stacks : List Stack) (write : Bool) (n : ℕ) → permits write (low_cells image stacks n) ≡ true → n < 2 ^ 64
low_permitted image stacks write n permitted = by (nat_lt n (2 ^ 64)) refl permitted
  where
    by : (b : Bool) → nat_lt n (2 ^ 64) ≡ b → permits write (cond b (with_stacks (image_cells image) stacks n) None) ≡ true → n < 2 ^ 64
    by true test permitted = grind (arith, nat_tests)
    by false test permitted = absurd (differs (permits write None) (permits_none write) permitted)

-- what is permitted ends low
abbrev IsLowAlone : Permission → Type 0
IsLowAlone may = (write : Bool) (address size : ℕ) → IsSize size → may write address size ≡ true → IsSized address size

size_some : (size : ℕ) → IsSize size → 1 ≤ size
size_some size is = elim is [ inl e ↦ omega (arith, e) | inr (inl e) ↦ omega (arith, e) | inr (inr (inl e)) ↦ omega (arith, e) | inr (inr (inr e)) ↦ omega (arith, e) ]

size_few : (size : ℕ) → IsSize size → size ≤ 8
size_few size is = elim is [ inl e ↦ omega (arith, e) | inr (inl e) ↦ omega (arith, e) | inr (inr (inl e)) ↦ omega (arith, e) | inr (inr (inr e)) ↦ omega (arith, e) ]

low_end : (image : Image) (stacks : List Stack) (write : Bool) (address size : ℕ) → 1 ≤ size → allows (low_cells image stacks) write address size ≡ true → address + size ≤ 2 ^ 64
low_end image stacks write address zero some allowed = absurd (omega (arith, some))
low_end image stacks write address (suc size) some allowed =
    let low = low_permitted image stacks write (address + size) (last_allowed (low_cells image stacks) write address size allowed) in omega (arith, low)

low_alone : (image : Image) (stacks : List Stack) → IsLowAlone (allows (low_cells image stacks))
low_alone image stacks write address size is allowed =
    record { some = size_some size is; few = size_few size is; ends = low_end image stacks write address size (size_some size is) allowed }

-- ---- the accesses of words

module _ (may : Permission) (low_may : IsLowAlone may) where
  breaks_sized : (n : ℕ) → AllMakes IsSizedItem (breaks n)
  breaks_sized n =
      makes_choice IsSizedItem (n == 1) (traps Divide) _ tt
      (makes_choice IsSizedItem (n == 2) (traps Invalid) _ tt (makes_choice IsSizedItem (n == 3) (traps BadReturn) (traps BadJump) tt tt))

  calls_sized : (n place x7 : ℕ) (f : Nzcv) → AllMakes IsSizedItem (calls n place x7 f)
  calls_sized n place x7 f =
      makes_choice IsSizedItem (n == 1) (takes_in place (λ v. gets v f)) _ (λ v lt. ((tt, tt), tt))
      (makes_choice IsSizedItem (n == 2) (puts_out place x7 (gets 0 f)) _ (λ v lt. ((tt, tt), tt))
      (makes_choice IsSizedItem (n == 3) (Gives (Stops Halted)) (traps BadJump) tt tt))

  branches_sized : (taken : Bool) (distance : ℤ) (f : Nzcv) → AllMakes IsSizedItem (branches taken distance f)
  branches_sized taken distance f = makes_choice IsSizedItem taken (jumps distance f) (jumps (pos 1) f) tt tt

  written_sized : (place address size : ℕ) (new : Option ℕ) → IsSized address size → AllByRecursion IsSizedItem (locked_write place address size new)
  written_sized place address size None sized = tt
  written_sized place address size (Some v) sized = (sized, tt)

  exchange_sized : (place address size : ℕ) (new : ℕ → Option ℕ) (f : Nzcv) → IsSize size
      → AllMakes IsSizedItem (exchanges may place address size new (λ old. gets old f))
  exchange_sized place address size new f is = by (may false address size) refl
    where
      by : (b : Bool) → may false address size ≡ b
          → AllMakes IsSizedItem (if b && may true address size
          then Acts (256 ^ size) (λ v. access Read true place address size v ∷ locked_write place address size (new v)) (λ old. gets old f) else traps BadAccess)
      by true test =
          let sized = low_may false address size is test in
          makes_choice IsSizedItem (may true address size)
          (Acts (256 ^ size) (λ v. access Read true place address size v ∷ locked_write place address size (new v)) (λ old. gets old f)) (traps BadAccess)
          (λ v lt. ((sized, written_sized place address size (new v) sized), tt)) tt
      by false test = tt

  act_sized : (place : ℕ) (w : A64 XReg) (r : XReg → ℕ) (f : Nzcv) → IsEncodable w → AllMakes IsSizedItem (a64_act xregs may place w r f)
  act_sized place (Subs x d n m kind amount) r f range = tt
  act_sized place (B distance) r f range = tt
  act_sized place (BCond code distance) r f range = branches_sized (holds code f) distance f
  act_sized place (Cbz x t distance) r f range = branches_sized (low x (r t) == 0) distance f
  act_sized place (Cbnz x t distance) r f range = branches_sized (not (low x (r t) == 0)) distance f
  act_sized place (Ldr size t n number) r f range =
      makes_reads IsSizedItem may place ((r n + number * size) % 2 ^ 64) size (λ v. gets v f)
      (λ allowed v. low_may false ((r n + number * size) % 2 ^ 64) size range.0 allowed) (λ v. tt)
  act_sized place (Str size t n number) r f range =
      makes_writes IsSizedItem may place ((r n + number * size) % 2 ^ 64) size (r t) (gets 0 f)
      (λ allowed. low_may true ((r n + number * size) % 2 ^ 64) size range.0 allowed) tt
  act_sized place (Cas size s t n) r f range = exchange_sized place (r n) size (a64_written (Cas size s t n) r) f range.0
  act_sized place (Swp size s t n) r f range = exchange_sized place (r n) size (a64_written (Swp size s t n) r) f range.0
  act_sized place (Ldadd size s t n) r f range = exchange_sized place (r n) size (a64_written (Ldadd size s t n) r) f range.0
  act_sized place (Ldclr size s t n) r f range = exchange_sized place (r n) size (a64_written (Ldclr size s t n) r) f range.0
  act_sized place (Ldeor size s t n) r f range = exchange_sized place (r n) size (a64_written (Ldeor size s t n) r) f range.0
  act_sized place (Ldset size s t n) r f range = exchange_sized place (r n) size (a64_written (Ldset size s t n) r) f range.0
  act_sized place DmbFull r f range = λ v lt. ((tt, tt), tt)
  act_sized place DmbLd r f range = λ v lt. ((tt, tt), tt)
  act_sized place DmbSt r f range = λ v lt. ((tt, tt), tt)
  act_sized place (Brk number) r f range = breaks_sized number
  act_sized place (Svc number) r f range = calls_sized number place (r (xregs.register 7)) f
  act_sized place w r f range = tt

  computed_sized : (computed : Option ℕ) (f : Nzcv) (act : Tree (Next Done)) → AllMakes IsSizedItem act → AllMakes IsSizedItem (computes_or computed f act)
  computed_sized (Some v) f act sized = tt
  computed_sized None f act sized = sized

  take_sized : (o : Option (A64 XReg)) (t : AThread) → ((w : A64 XReg) → o ≡ Some w → IsEncodable w) → AllMakes IsSizedItem (a64_take may o t)
  take_sized None t range = tt
  take_sized (Some w) t range =
      makes_then IsSizedItem (a64_row xregs may t.at w (value xregs t.state) t.state.nzcv)
      (λ d. goes (record { at = moved t.at d.distance; state = after xregs (a64_result xregs w) d t.state }))
      (computed_sized (a64_value w (value xregs t.state) t.state.nzcv) t.state.nzcv (a64_act xregs may t.at w (value xregs t.state) t.state.nzcv)
      (act_sized t.at w (value xregs t.state) t.state.nzcv (range w refl))) (λ d. tt)

  encodable : (o : Option ℕ) (w : A64 XReg) → option_and_then a64_of o ≡ Some w → IsEncodable w
  encodable None w here = absurd cc
  encodable (Some word) w here = (spelled word w here).0

  step_sized : (first : ℕ) (words : List ℕ) (t : AThread) → AllMakes IsSizedItem (a64_step may first words t)
  step_sized first words t = take_sized (option_and_then a64_of (word_at first words t.at)) t (encodable (word_at first words t.at))

-- ---- the accesses of a thread

sized_again : (a : Access) (t i : ℕ) → IsSizedItem (items.Access a) → IsSizedItem (items.Access (record a { id = record { thread = t; index = i } }))
sized_again a t i sized = sized

-- the accesses of a run of the image's machine, named
pub run_sized : (image : Image) (stacks : List Stack) → IsImage image → Fits (image_parts image) (length image.threads) stacks
    → (start : AThread) (made : List Item) (end : End) (n k : ℕ) → Run (thread_step image stacks) start made end n → AllByRecursion IsSizedItem (numbered k made)
run_sized image stacks is fits start made end n k run =
    let on_low = subst (λ step. Run step start made end n) (sym (low_same image stacks is fits)) run in
    all-numbered IsSizedItem sized_again k 0 made
    (run_makes IsSizedItem (step_sized (allows (low_cells image stacks)) (low_alone image stacks) image.code_address image.words) on_low)

-- each access among items has what all items have
pub sized_at : (is : List Item) (n : ℕ) (a : Access) → AllByRecursion IsSizedItem is → slice_get (accesses is) n ≡ Some a → IsSized a.address a.size
sized_at [] n a all here = absurd cc
sized_at (items.Access b ∷ is) zero a all here =
    let same : b ≡ a = cc in subst (λ (c : Access). IsSized c.address c.size) same all.0
sized_at (items.Access b ∷ is) (suc n) a all here = sized_at is n a all.1 here
sized_at (items.Fence f ∷ is) n a all here = sized_at is n a all.1 here
sized_at (items.Input t ∷ is) n a all here = sized_at is n a all.1 here
sized_at (items.Output t ∷ is) n a all here = sized_at is n a all.1 here
