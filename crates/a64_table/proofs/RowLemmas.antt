-- The laws of rows, form by form.
use Rattle.std.proofs.Common.{◌≡◌, ℕ, ◌+◌, ◌*◌, ◌%◌, ◌^◌, ◌<◌, ◌==◌, ◌&&◌, Bool, true, false, not, List, [], ◌∷◌, ◌++◌, Option, Some, None, refl, sym, ap, ◌∙◌, subst, arith}
use Rattle.std.specs.Prelude.{ℤ, pos, if◌then◌else◌}
use Rattle.std.proofs.lemmas.List.{append-nil}
use Rattle.ev_graph.specs.declared.events.Item.{Item}
use Rattle.ev_graph.specs.declared.events.Item.TheVariants as items
use Rattle.ev_graph.specs.declared.events.AccessKind.TheVariants.{Read, Write}
use Rattle.ev_graph.specs.declared.events.FenceKind.TheVariants as fences
use Rattle.ev_graph.specs.declared.events.TrapKind.TheVariants.{BadAccess, Divide, Invalid, BadReturn, BadJump}
use Rattle.ev_graph.specs.declared.events.End.TheVariants.{Halted, Trap}
use Rattle.ev_graph.specs.declared.rows.Wanted.{Wanted}
use Rattle.behavior.specs.Tree.{Tree, Gives, Acts, At, Path, gives, acts, Next, Goes, Stops}
use Rattle.behavior.specs.Acts.{Permission, traps, access, makes, locked_write, exchanges, takes_in, puts_out}
use Rattle.behavior.specs.Explained.{IsOpen}
use Rattle.behavior.proofs.ActsLemmas.{open_makes, open_reads, open_writes, open_exchanges, open_takes_in}
use Rattle.a64_code.specs.declared.instr.XReg.{XReg}
use Rattle.a64_code.specs.declared.instr.A64.{A64}
use Rattle.a64_code.specs.declared.instr.A64.TheVariants.{Subs, B, BCond, Cbz, Cbnz, Ldr, Str, Cas, Swp, Ldadd, Ldclr, Ldeor, Ldset, DmbFull, DmbLd, DmbSt, Brk, Svc}
use Rattle.a64_table.specs.declared.state.Nzcv.{Nzcv}
use Rattle.a64_table.specs.declared.state.Done.{Done}
use Rattle.a64_table.specs.State.{xregs, value, held}
use Rattle.a64_table.specs.Values.{low, holds, a64_value}
use Rattle.a64_table.specs.Rows.{gets, jumps, branches, breaks, calls, computes_or, a64_written, a64_act, a64_row}
use Rattle.a64_table.specs.Answers.{ValueRead, ValueIn, NoValue, need_of, supplied, Answer, NeedsRead, NeedsInput, Makes, answered}
use Rattle.a64_table.specs.Laws.{FitsIn, read_size, value_read, value_in, AnswersPaths, RowsArePaths, RowsAreOpen}

-- the path to a result that takes no act
ends_at : (r next : Next Done) (is : List Item) → Makes [] r ≡ Makes is next → Path (Gives r) is (At next) 0
ends_at r next is e =
    let same : r ≡ next = cc in
    let none : [] ≡ is = cc in
    subst (λ l. Path (Gives r) l (At next) 0) none (subst (λ n. Path (Gives r) [] (At n) 0) same gives)

-- a result that takes no act
comes : (size : ℕ) (r : Next Done) → AnswersPaths (Gives r) size
comes size r = record {
  made = λ read input fits fits' is next e. ends_at r next is e;
  told = told_there;
  wants_read = λ read input wanted e. absurd (cc);
  wants_input = λ read input e. absurd (cc);
}
  where
    told_there : (is : List Item) (next : Next Done) (n : ℕ) → Path (Gives r) is (At next) n → Makes [] r ≡ Makes is next
    told_there is next n gives = refl

-- either of two trees
either : (size : ℕ) (b : Bool) (t u : Tree (Next Done)) → AnswersPaths t size → AnswersPaths u size → AnswersPaths (if b then t else u) size
either size true t u first second = first
either size false t u first second = second

-- the path through one act
acts_to : (range : ℕ) (make : ℕ → List Item) (result : ℕ → Next Done) (v : ℕ) → v < range → (is : List Item) (next : Next Done)
    → Makes ([] ++ make v) (result v) ≡ Makes is next → Path (Acts range make (λ v. Gives (result v))) is (At next) 0
acts_to range make result v lt is next e =
    let same : result v ≡ next = cc in
    let whole : make v ++ [] ≡ is = append-nil (make v) ∙ (cc) in
    let t = Acts range make (λ v. Gives (result v)) in
    subst (λ l. Path t l (At next) 0) whole (subst (λ n. Path t (make v ++ []) (At n) 0) same (acts v lt gives))

-- what holds of what one act makes holds of the items of a path through it
of_act : (range : ℕ) (make : ℕ → List Item) (result : ℕ → Next Done) (P : List Item → Next Done → Type 0)
    → ((v : ℕ) → v < range → P (make v) (result v)) → (is : List Item) (next : Next Done) (n : ℕ) → Path (Acts range make (λ v. Gives (result v))) is (At next) n → P is next
of_act range make result P each is next n (acts v lt gives) = subst (λ l. P l (result v)) (sym (append-nil (make v))) (each v lt)

-- one act that takes nothing from outside
makes_alone : (size : ℕ) (item : Item) (result : Next Done) → need_of (item ∷ []) ≡ NoValue → AnswersPaths (makes item (Gives result)) size
makes_alone size item result none = record {
  made = λ read input fits fits' is next e.
      acts_to 1 (λ v. item ∷ []) (λ v. result) 0 (omega arith) is next (sym (ap (λ n. supplied n read input (λ v. Makes ([] ++ (item ∷ [])) result)) none) ∙ e);
  told = of_act 1 (λ v. item ∷ []) (λ v. result) (λ is next. answered (makes item (Gives result)) (value_read is) (value_in is) [] ≡ Makes is next)
      (λ v lt. ap (λ n. supplied n (value_read (item ∷ [])) (value_in (item ∷ [])) (λ v. Makes ([] ++ (item ∷ [])) result)) none);
  wants_read = λ read input wanted e. let here = sym (ap (λ n. supplied n read input (λ v. Makes ([] ++ (item ∷ [])) result)) none) ∙ e in absurd (cc);
  wants_input = λ read input e. let here = sym (ap (λ n. supplied n read input (λ v. Makes ([] ++ (item ∷ [])) result)) none) ∙ e in absurd (cc);
}

-- one act that reads first, and makes more by the value
module _ (locked : Bool) (place address size : ℕ) (more : ℕ → List Item) (result : ℕ → Next Done) where
  abbrev wanted_there : Wanted
  wanted_there = record { address = address; size = size; locked = locked }

  abbrev answer_by : (read input : Option ℕ) → Answer Done
  answer_by read input = supplied (ValueRead wanted_there) read input (λ v. Makes (access Read locked place address size v ∷ more v) (result v))

  abbrev reading : Tree (Next Done)
  reading = Acts (256 ^ size) (λ v. access Read locked place address size v ∷ more v) (λ v. Gives (result v))

  reads_made : (read input : Option ℕ) → FitsIn size read → (is : List Item) (next : Next Done) → answer_by read input ≡ Makes is next → Path reading is (At next) 0
  reads_made None input fits is next e = absurd (cc)
  reads_made (Some v) input fits is next e = acts_to (256 ^ size) (λ v. access Read locked place address size v ∷ more v) result v fits is next e

  reads_wanted : (read input : Option ℕ) (w : Wanted) → answer_by read input ≡ NeedsRead w → (read ≡ None) × (ValueRead wanted_there ≡ ValueRead w)
  reads_wanted None input w e = (refl, cc)
  reads_wanted (Some v) input w e = absurd (cc)

  reads_no_input : (read input : Option ℕ) → answer_by read input ≡ NeedsInput → ⊥
  reads_no_input None input e = cc
  reads_no_input (Some v) input e = cc

  reads_first : AnswersPaths reading size
  reads_first = record {
    made = λ read input fits fits' is next e. reads_made read input fits is next e;
    told = of_act (256 ^ size) (λ v. access Read locked place address size v ∷ more v) result (λ is next. answered reading (value_read is) (value_in is) [] ≡ Makes is next) (λ v lt. refl);
    wants_read = λ read input w e. (
      (reads_wanted read input w e).0,
      λ is next n path. of_act (256 ^ size) (λ v. access Read locked place address size v ∷ more v) result (λ is next. need_of is ≡ ValueRead wanted_there) (λ v lt. refl) is next n path ∙ (reads_wanted read input w e).1,
    );
    wants_input = λ read input e. absurd (reads_no_input read input e);
  }

-- one act that takes an input
module _ (place : ℕ) (result : ℕ → Next Done) where
  abbrev answer_in : (read input : Option ℕ) → Answer Done
  answer_in read input = supplied ValueIn read input (λ v. Makes (items.Input (record { value = v; place = place }) ∷ []) (result v))

  abbrev taking : Tree (Next Done)
  taking = Acts (2 ^ 64) (λ v. items.Input (record { value = v; place = place }) ∷ []) (λ v. Gives (result v))

  takes_made : (read input : Option ℕ) → FitsIn 8 input → (is : List Item) (next : Next Done) → answer_in read input ≡ Makes is next → Path taking is (At next) 0
  takes_made read None fits is next e = absurd (cc)
  takes_made read (Some v) fits is next e = acts_to (2 ^ 64) (λ v. items.Input (record { value = v; place = place }) ∷ []) result v fits is next e

  takes_wanted : (read input : Option ℕ) → answer_in read input ≡ NeedsInput → input ≡ None
  takes_wanted read None e = refl
  takes_wanted read (Some v) e = absurd (cc)

  takes_no_read : (read input : Option ℕ) (w : Wanted) → answer_in read input ≡ NeedsRead w → ⊥
  takes_no_read read None w e = cc
  takes_no_read read (Some v) w e = cc

  takes_first : (size : ℕ) → AnswersPaths taking size
  takes_first size = record {
    made = λ read input fits fits' is next e. takes_made read input fits' is next e;
    told = of_act (2 ^ 64) (λ v. items.Input (record { value = v; place = place }) ∷ []) result (λ is next. answered taking (value_read is) (value_in is) [] ≡ Makes is next) (λ v lt. refl);
    wants_read = λ read input w e. absurd (takes_no_read read input w e);
    wants_input = λ read input e. (
      takes_wanted read input e,
      of_act (2 ^ 64) (λ v. items.Input (record { value = v; place = place }) ∷ []) result (λ is next. need_of is ≡ ValueIn) (λ v lt. refl),
    );
  }

-- ---- the forms

branches_law : (size : ℕ) (taken : Bool) (distance : ℤ) (f : Nzcv) → AnswersPaths (branches taken distance f) size
branches_law size taken distance f = either size taken (jumps distance f) (jumps (pos 1) f) (comes size _) (comes size _)

exchange_law : (may : Permission) (place address size : ℕ) (new : ℕ → Option ℕ) (f : Nzcv)
    → AnswersPaths (exchanges may place address size new (λ old. gets old f)) size
exchange_law may place address size new f =
    either size (may false address size && may true address size)
    (Acts (256 ^ size) (λ v. access Read true place address size v ∷ locked_write place address size (new v)) (λ v. gets v f)) (traps BadAccess)
    (reads_first true place address size (λ v. locked_write place address size (new v)) (λ v. Goes (record { distance = pos 1; value = v; nzcv = f }))) (comes size (Stops (Trap BadAccess)))

breaks_law : (size n : ℕ) → AnswersPaths (breaks n) size
breaks_law size n =
    either size (n == 1) (traps Divide) _ (comes size _) (either size (n == 2) (traps Invalid) _ (comes size _) (either size (n == 3) (traps BadReturn) (traps BadJump) (comes size _) (comes size _)))

calls_law : (size n place x7 : ℕ) (f : Nzcv) → AnswersPaths (calls n place x7 f) size
calls_law size n place x7 f =
    either size (n == 1) (takes_in place (λ v. gets v f)) _ (takes_first place (λ v. Goes (record { distance = pos 1; value = v; nzcv = f })) size)
    (either size (n == 2) (puts_out place x7 (gets 0 f)) _ (makes_alone size (items.Output (record { value = x7; place = place })) _ refl)
    (either size (n == 3) (Gives (Stops Halted)) (traps BadJump) (comes size _) (comes size _)))

act_law : (may : Permission) (place : ℕ) (w : A64 XReg) (r : XReg → ℕ) (f : Nzcv) → AnswersPaths (a64_act xregs may place w r f) (read_size w)
act_law may place (Subs x d n m kind amount) r f = comes 8 _
act_law may place (B distance) r f = comes 8 _
act_law may place (BCond code distance) r f = branches_law 8 (holds code f) distance f
act_law may place (Cbz x t distance) r f = branches_law 8 (low x (r t) == 0) distance f
act_law may place (Cbnz x t distance) r f = branches_law 8 (not (low x (r t) == 0)) distance f
act_law may place (Ldr size t n number) r f =
    either size (may false ((r n + number * size) % 2 ^ 64) size)
    (Acts (256 ^ size) (λ v. access Read false place ((r n + number * size) % 2 ^ 64) size v ∷ []) (λ v. gets v f)) (traps BadAccess)
    (reads_first false place ((r n + number * size) % 2 ^ 64) size (λ v. []) (λ v. Goes (record { distance = pos 1; value = v; nzcv = f }))) (comes size (Stops (Trap BadAccess)))
act_law may place (Str size t n number) r f =
    either 8 (may true ((r n + number * size) % 2 ^ 64) size)
    (makes (access Write false place ((r n + number * size) % 2 ^ 64) size (r t % 256 ^ size)) (gets 0 f)) (traps BadAccess)
    (makes_alone 8 (access Write false place ((r n + number * size) % 2 ^ 64) size (r t % 256 ^ size)) _ refl) (comes 8 (Stops (Trap BadAccess)))
act_law may place (Cas size s t n) r f = exchange_law may place (r n) size (a64_written (Cas size s t n) r) f
act_law may place (Swp size s t n) r f = exchange_law may place (r n) size (a64_written (Swp size s t n) r) f
act_law may place (Ldadd size s t n) r f = exchange_law may place (r n) size (a64_written (Ldadd size s t n) r) f
act_law may place (Ldclr size s t n) r f = exchange_law may place (r n) size (a64_written (Ldclr size s t n) r) f
act_law may place (Ldeor size s t n) r f = exchange_law may place (r n) size (a64_written (Ldeor size s t n) r) f
act_law may place (Ldset size s t n) r f = exchange_law may place (r n) size (a64_written (Ldset size s t n) r) f
act_law may place DmbFull r f = makes_alone 8 (items.Fence (record { kind = fences.DmbFull; place = place })) _ refl
act_law may place DmbLd r f = makes_alone 8 (items.Fence (record { kind = fences.DmbLd; place = place })) _ refl
act_law may place DmbSt r f = makes_alone 8 (items.Fence (record { kind = fences.DmbSt; place = place })) _ refl
act_law may place (Brk number) r f = breaks_law 8 number
act_law may place (Svc number) r f = calls_law 8 number place (r (xregs.register 7)) f
act_law may place w r f = comes 8 _

computed_law : (size : ℕ) (computed : Option ℕ) (f : Nzcv) (act : Tree (Next Done)) → AnswersPaths act size → AnswersPaths (computes_or computed f act) size
computed_law size (Some v) f act law = comes size _
computed_law size None f act law = law

pub rows_are_paths : RowsArePaths
rows_are_paths w s may =
    computed_law (read_size w) (a64_value w (value xregs (held s)) (held s).nzcv) (held s).nzcv
    (a64_act xregs may s.at w (value xregs (held s)) (held s).nzcv) (act_law may s.at w (value xregs (held s)) (held s).nzcv)

-- ---- openness

open_either : (b : Bool) (t u : Tree (Next Done)) → IsOpen t → IsOpen u → IsOpen (if b then t else u)
open_either true t u first second = first
open_either false t u first second = second

open_breaks : (n : ℕ) → IsOpen (breaks n)
open_breaks n = open_either (n == 1) (traps Divide) _ tt (open_either (n == 2) (traps Invalid) _ tt (open_either (n == 3) (traps BadReturn) (traps BadJump) tt tt))

open_calls : (n place x7 : ℕ) (f : Nzcv) → IsOpen (calls n place x7 f)
open_calls n place x7 f =
    open_either (n == 1) (takes_in place (λ v. gets v f)) _ (open_takes_in place (λ v. gets v f) (λ v. tt))
    (open_either (n == 2) (puts_out place x7 (gets 0 f)) _ (open_makes (items.Output (record { value = x7; place = place })) (gets 0 f) tt)
    (open_either (n == 3) (Gives (Stops Halted)) (traps BadJump) tt tt))

open_act : (may : Permission) (place : ℕ) (w : A64 XReg) (r : XReg → ℕ) (f : Nzcv) → IsOpen (a64_act xregs may place w r f)
open_act may place (Subs x d n m kind amount) r f = tt
open_act may place (B distance) r f = tt
open_act may place (BCond code distance) r f = open_either (holds code f) (jumps distance f) (jumps (pos 1) f) tt tt
open_act may place (Cbz x t distance) r f = open_either (low x (r t) == 0) (jumps distance f) (jumps (pos 1) f) tt tt
open_act may place (Cbnz x t distance) r f = open_either (not (low x (r t) == 0)) (jumps distance f) (jumps (pos 1) f) tt tt
open_act may place (Ldr size t n number) r f = open_reads may place ((r n + number * size) % 2 ^ 64) size (λ v. gets v f) (λ v. tt)
open_act may place (Str size t n number) r f = open_writes may place ((r n + number * size) % 2 ^ 64) size (r t) (gets 0 f) tt
open_act may place (Cas size s t n) r f = open_exchanges may place (r n) size (a64_written (Cas size s t n) r) (λ old. gets old f) (λ v. tt)
open_act may place (Swp size s t n) r f = open_exchanges may place (r n) size (a64_written (Swp size s t n) r) (λ old. gets old f) (λ v. tt)
open_act may place (Ldadd size s t n) r f = open_exchanges may place (r n) size (a64_written (Ldadd size s t n) r) (λ old. gets old f) (λ v. tt)
open_act may place (Ldclr size s t n) r f = open_exchanges may place (r n) size (a64_written (Ldclr size s t n) r) (λ old. gets old f) (λ v. tt)
open_act may place (Ldeor size s t n) r f = open_exchanges may place (r n) size (a64_written (Ldeor size s t n) r) (λ old. gets old f) (λ v. tt)
open_act may place (Ldset size s t n) r f = open_exchanges may place (r n) size (a64_written (Ldset size s t n) r) (λ old. gets old f) (λ v. tt)
open_act may place DmbFull r f = open_makes (items.Fence (record { kind = fences.DmbFull; place = place })) (gets 0 f) tt
open_act may place DmbLd r f = open_makes (items.Fence (record { kind = fences.DmbLd; place = place })) (gets 0 f) tt
open_act may place DmbSt r f = open_makes (items.Fence (record { kind = fences.DmbSt; place = place })) (gets 0 f) tt
open_act may place (Brk number) r f = open_breaks number
open_act may place (Svc number) r f = open_calls number place (r (xregs.register 7)) f
open_act may place w r f = tt

open_computed : (computed : Option ℕ) (f : Nzcv) (act : Tree (Next Done)) → IsOpen act → IsOpen (computes_or computed f act)
open_computed (Some v) f act here = tt
open_computed None f act here = here

pub row_open : (may : Permission) (place : ℕ) (w : A64 XReg) (r : XReg → ℕ) (f : Nzcv) → IsOpen (a64_row xregs may place w r f)
row_open may place w r f = open_computed (a64_value w r f) f (a64_act xregs may place w r f) (open_act may place w r f)

pub rows_are_open : RowsAreOpen
rows_are_open w s may = row_open may s.at w (value xregs (held s)) (held s).nzcv
