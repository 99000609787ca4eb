-- The trees of rows: a row makes one act at most, and then goes on.
use Rattle.std.proofs.Common.{◌≡◌, ℕ, ◌*◌, ◌+◌, ◌%◌, ◌^◌, ◌==◌, ◌&&◌, Bool, true, false, not, [], ◌∷◌, Option, Some, None}
use Rattle.std.specs.Prelude.{ℤ, pos, if◌then◌else◌}
use Rattle.ev_graph.specs.declared.events.Item.TheVariants as items
use Rattle.ev_graph.specs.declared.events.AccessKind.TheVariants.{Read, Write}
use Rattle.ev_graph.specs.declared.events.FenceKind.{FenceKind}
use Rattle.ev_graph.specs.declared.events.FenceKind.TheVariants as fences
use Rattle.ev_graph.specs.declared.events.TrapKind.TheVariants.{BadAccess, Divide, Invalid, BadReturn, BadJump}
use Rattle.ev_graph.specs.declared.events.End.TheVariants.{Halted, Trap}
use Rattle.behavior.specs.Tree.{Tree, Gives, Acts, Next, Goes, Stops}
use Rattle.behavior.specs.Acts.{Permission, traps, access, makes, locked_write, exchanges, takes_in, puts_out}
use Rattle.a64_code.specs.declared.instr.XReg.{XReg}
use Rattle.a64_code.specs.declared.instr.A64.{A64}
use Rattle.a64_code.specs.declared.instr.A64.TheVariants.{Subs, B, BCond, Cbz, Cbnz, Ldr, Str, Cas, Swp, Ldadd, Ldclr, Ldeor, Ldset, DmbFull, DmbLd, DmbSt, Brk, Svc}
use Rattle.a64_table.specs.declared.state.Nzcv.{Nzcv}
use Rattle.a64_table.specs.declared.state.Done.{Done}
use Rattle.a64_table.specs.State.{xregs}
use Rattle.a64_table.specs.Values.{low, holds, a64_value}
use Rattle.a64_table.specs.Rows.{gets, jumps, branches, breaks, calls, computes_or, a64_written, a64_act, a64_row}

-- What the tree of a row at a place is: nothing but a result; or one act, of a read that a write may follow, of an input, of a
-- write, a fence or an output, and then a result.
pub data RowShape (place : ℕ) : Tree (Next Done) → Type 0 where
  only : (r : Next Done) → RowShape place (Gives r)
  reading : (locked : Bool) (address size : ℕ) (new : ℕ → Option ℕ) (to : ℕ → Done)
      → RowShape place (Acts (256 ^ size) (λ v. access Read locked place address size v ∷ locked_write place address size (new v)) (λ v. Gives (Goes (to v))))
  taking : (to : ℕ → Done) → RowShape place (Acts (2 ^ 64) (λ v. items.Input (record { value = v; place = place }) ∷ []) (λ v. Gives (Goes (to v))))
  writing : (address size value : ℕ) (to : Done) → RowShape place (Acts 1 (λ v. access Write false place address size value ∷ []) (λ v. Gives (Goes to)))
  fencing : (kind : FenceKind) (to : Done) → RowShape place (Acts 1 (λ v. items.Fence (record { kind = kind; place = place }) ∷ []) (λ v. Gives (Goes to)))
  putting : (value : ℕ) (to : Done) → RowShape place (Acts 1 (λ v. items.Output (record { value = value; place = place }) ∷ []) (λ v. Gives (Goes to)))

either : {place : ℕ} (b : Bool) (t u : Tree (Next Done)) → RowShape place t → RowShape place u → RowShape place (if b then t else u)
either true t u first second = first
either false t u first second = second

of_branches : (place : ℕ) (taken : Bool) (distance : ℤ) (f : Nzcv) → RowShape place (branches taken distance f)
of_branches place taken distance f = either taken (jumps distance f) (jumps (pos 1) f) (only _) (only _)

of_exchange : (may : Permission) (place address size : ℕ) (new : ℕ → Option ℕ) (f : Nzcv) → RowShape place (exchanges may place address size new (λ old. gets old f))
of_exchange may place address size new f =
    either (may false address size && may true address size)
    (Acts (256 ^ size) (λ v. access Read true place address size v ∷ locked_write place address size (new v)) (λ v. gets v f)) (traps BadAccess)
    (reading true address size new (λ v. record { distance = pos 1; value = v; nzcv = f })) (only (Stops (Trap BadAccess)))

of_breaks : (place n : ℕ) → RowShape place (breaks n)
of_breaks place n =
    either (n == 1) (traps Divide) _ (only _) (either (n == 2) (traps Invalid) _ (only _) (either (n == 3) (traps BadReturn) (traps BadJump) (only _) (only _)))

of_calls : (n place x7 : ℕ) (f : Nzcv) → RowShape place (calls n place x7 f)
of_calls n place x7 f =
    either (n == 1) (takes_in place (λ v. gets v f)) _ (taking (λ v. record { distance = pos 1; value = v; nzcv = f }))
    (either (n == 2) (puts_out place x7 (gets 0 f)) _ (putting x7 (record { distance = pos 1; value = 0; nzcv = f }))
    (either (n == 3) (Gives (Stops Halted)) (traps BadJump) (only _) (only _)))

of_act : (may : Permission) (place : ℕ) (w : A64 XReg) (r : XReg → ℕ) (f : Nzcv) → RowShape place (a64_act xregs may place w r f)
of_act may place (Subs x d n m kind amount) r f = only _
of_act may place (B distance) r f = only _
of_act may place (BCond code distance) r f = of_branches place (holds code f) distance f
of_act may place (Cbz x t distance) r f = of_branches place (low x (r t) == 0) distance f
of_act may place (Cbnz x t distance) r f = of_branches place (not (low x (r t) == 0)) distance f
of_act may place (Ldr size t n number) r f =
    either (may false ((r n + number * size) % 2 ^ 64) size)
    (Acts (256 ^ size) (λ v. access Read false place ((r n + number * size) % 2 ^ 64) size v ∷ []) (λ v. gets v f)) (traps BadAccess)
    (reading false ((r n + number * size) % 2 ^ 64) size (λ v. None) (λ v. record { distance = pos 1; value = v; nzcv = f })) (only (Stops (Trap BadAccess)))
of_act may place (Str size t n number) r f =
    either (may true ((r n + number * size) % 2 ^ 64) size)
    (makes (access Write false place ((r n + number * size) % 2 ^ 64) size (r t % 256 ^ size)) (gets 0 f)) (traps BadAccess)
    (writing ((r n + number * size) % 2 ^ 64) size (r t % 256 ^ size) (record { distance = pos 1; value = 0; nzcv = f })) (only (Stops (Trap BadAccess)))
of_act may place (Cas size s t n) r f = of_exchange may place (r n) size (a64_written (Cas size s t n) r) f
of_act may place (Swp size s t n) r f = of_exchange may place (r n) size (a64_written (Swp size s t n) r) f
of_act may place (Ldadd size s t n) r f = of_exchange may place (r n) size (a64_written (Ldadd size s t n) r) f
of_act may place (Ldclr size s t n) r f = of_exchange may place (r n) size (a64_written (Ldclr size s t n) r) f
of_act may place (Ldeor size s t n) r f = of_exchange may place (r n) size (a64_written (Ldeor size s t n) r) f
of_act may place (Ldset size s t n) r f = of_exchange may place (r n) size (a64_written (Ldset size s t n) r) f
of_act may place DmbFull r f = fencing fences.DmbFull (record { distance = pos 1; value = 0; nzcv = f })
of_act may place DmbLd r f = fencing fences.DmbLd (record { distance = pos 1; value = 0; nzcv = f })
of_act may place DmbSt r f = fencing fences.DmbSt (record { distance = pos 1; value = 0; nzcv = f })
of_act may place (Brk number) r f = of_breaks place number
of_act may place (Svc number) r f = of_calls number place (r (xregs.register 7)) f
of_act may place w r f = only _

of_computed : (place : ℕ) (computed : Option ℕ) (f : Nzcv) (act : Tree (Next Done)) → RowShape place act → RowShape place (computes_or computed f act)
of_computed place (Some v) f act shape = only _
of_computed place None f act shape = shape

-- each row has one of the shapes
pub row_shape : (may : Permission) (place : ℕ) (w : A64 XReg) (r : XReg → ℕ) (f : Nzcv) → RowShape place (a64_row xregs may place w r f)
row_shape may place w r f = of_computed place (a64_value w r f) f (a64_act xregs may place w r f) (of_act may place w r f)
