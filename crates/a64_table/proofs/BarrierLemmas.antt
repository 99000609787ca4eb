-- The fences that a thread makes are barriers of Arm.
use Rattle.std.proofs.Common.{◌≡◌, ℕ, ◌+◌, ◌*◌, ◌%◌, ◌^◌, ◌==◌, ◌&&◌, Bool, true, false, not, List, ◌∷◌, Option, Some, None, refl}
use Rattle.std.specs.Prelude.{ℤ, pos}
use Rattle.std.specs.List.{AllByRecursion}
use Rattle.std.specs.Option.{option_and_then}
use Rattle.ev_graph.specs.declared.events.Item.{Item}
use Rattle.ev_graph.specs.declared.events.Item.TheVariants as items
use Rattle.ev_graph.specs.declared.events.AccessKind.TheVariants.{Read}
use Rattle.ev_graph.specs.declared.events.TrapKind.TheVariants.{BadAccess, Divide, Invalid, BadReturn, BadJump}
use Rattle.ev_graph.specs.declared.events.End.TheVariants.{Halted}
use Rattle.behavior.specs.Tree.{Tree, Gives, Acts, Next, Stops}
use Rattle.behavior.specs.Acts.{Permission, goes, traps, access, locked_write, exchanges, takes_in, puts_out}
use Rattle.behavior.specs.Seen.{barrier}
use Rattle.behavior.proofs.Makes.{AllMakes, makes_then, makes_choice, makes_reads, makes_writes}
use Rattle.a64_code.specs.declared.instr.XReg.{XReg}
use Rattle.a64_code.specs.declared.instr.A64.{A64}
use Rattle.a64_code.specs.declared.instr.A64.TheVariants.{Subs, B, BCond, Cbz, Cbnz, Ldr, Str, Cas, Swp, Ldadd, Ldclr, Ldeor, Ldset, DmbFull, DmbLd, DmbSt, Brk, Svc}
use Rattle.a64_code.specs.Decoding.{a64_of}
use Rattle.a64_table.specs.declared.state.Nzcv.{Nzcv}
use Rattle.a64_table.specs.declared.state.Done.{Done}
use Rattle.a64_table.specs.State.{xregs, value, after, moved}
use Rattle.a64_table.specs.Values.{low, holds, a64_value}
use Rattle.a64_table.specs.Rows.{gets, jumps, branches, breaks, calls, computes_or, a64_written, a64_act, a64_row, a64_result}
use Rattle.a64_table.specs.Machine.{AThread, word_at, a64_take, a64_step}

-- a fence is a DMB, which is its own barrier
abbrev pub IsBarred : Item → Type 0
IsBarred (items.Access a) = Unit {0}
IsBarred (items.Fence f) = barrier f.kind ≡ f.kind
IsBarred (items.Input t) = Unit {0}
IsBarred (items.Output t) = Unit {0}

breaks_barred : (n : ℕ) → AllMakes IsBarred (breaks n)
breaks_barred n =
    makes_choice IsBarred (n == 1) (traps Divide) _ tt
    (makes_choice IsBarred (n == 2) (traps Invalid) _ tt (makes_choice IsBarred (n == 3) (traps BadReturn) (traps BadJump) tt tt))

calls_barred : (n place x7 : ℕ) (f : Nzcv) → AllMakes IsBarred (calls n place x7 f)
calls_barred n place x7 f =
    makes_choice IsBarred (n == 1) (takes_in place (λ v. gets v f)) _ (λ v lt. ((tt, tt), tt))
    (makes_choice IsBarred (n == 2) (puts_out place x7 (gets 0 f)) _ (λ v lt. ((tt, tt), tt))
    (makes_choice IsBarred (n == 3) (Gives (Stops Halted)) (traps BadJump) tt tt))

branches_barred : (taken : Bool) (distance : ℤ) (f : Nzcv) → AllMakes IsBarred (branches taken distance f)
branches_barred taken distance f = makes_choice IsBarred taken (jumps distance f) (jumps (pos 1) f) tt tt

written_barred : (place address size : ℕ) (new : Option ℕ) → AllByRecursion IsBarred (locked_write place address size new)
written_barred place address size None = tt
written_barred place address size (Some v) = (tt, tt)

exchange_barred : (may : Permission) (place address size : ℕ) (new : ℕ → Option ℕ) (f : Nzcv)
    → AllMakes IsBarred (exchanges may place address size new (λ old. gets old f))
exchange_barred may place address size new f =
    makes_choice IsBarred (may false address size && may true address size)
    (Acts (256 ^ size) (λ v. access Read true place address size v ∷ locked_write place address size (new v)) (λ v. gets v f)) (traps BadAccess)
    (λ v lt. ((tt, written_barred place address size (new v)), tt)) tt

act_barred : (may : Permission) (place : ℕ) (w : A64 XReg) (r : XReg → ℕ) (f : Nzcv) → AllMakes IsBarred (a64_act xregs may place w r f)
act_barred may place (Subs x d n m kind amount) r f = tt
act_barred may place (B distance) r f = tt
act_barred may place (BCond code distance) r f = branches_barred (holds code f) distance f
act_barred may place (Cbz x t distance) r f = branches_barred (low x (r t) == 0) distance f
act_barred may place (Cbnz x t distance) r f = branches_barred (not (low x (r t) == 0)) distance f
act_barred may place (Ldr size t n number) r f = makes_reads IsBarred may place ((r n + number * size) % 2 ^ 64) size (λ v. gets v f) (λ allowed v. tt) (λ v. tt)
act_barred may place (Str size t n number) r f = makes_writes IsBarred may place ((r n + number * size) % 2 ^ 64) size (r t) (gets 0 f) (λ allowed. tt) tt
act_barred may place (Cas size s t n) r f = exchange_barred may place (r n) size (a64_written (Cas size s t n) r) f
act_barred may place (Swp size s t n) r f = exchange_barred may place (r n) size (a64_written (Swp size s t n) r) f
act_barred may place (Ldadd size s t n) r f = exchange_barred may place (r n) size (a64_written (Ldadd size s t n) r) f
act_barred may place (Ldclr size s t n) r f = exchange_barred may place (r n) size (a64_written (Ldclr size s t n) r) f
act_barred may place (Ldeor size s t n) r f = exchange_barred may place (r n) size (a64_written (Ldeor size s t n) r) f
act_barred may place (Ldset size s t n) r f = exchange_barred may place (r n) size (a64_written (Ldset size s t n) r) f
act_barred may place DmbFull r f = λ v lt. ((refl, tt), tt)
act_barred may place DmbLd r f = λ v lt. ((refl, tt), tt)
act_barred may place DmbSt r f = λ v lt. ((refl, tt), tt)
act_barred may place (Brk number) r f = breaks_barred number
act_barred may place (Svc number) r f = calls_barred number place (r (xregs.register 7)) f
act_barred may place w r f = tt

computed_barred : (computed : Option ℕ) (f : Nzcv) (act : Tree (Next Done)) → AllMakes IsBarred act → AllMakes IsBarred (computes_or computed f act)
computed_barred (Some v) f act barred = tt
computed_barred None f act barred = barred

row_barred : (may : Permission) (place : ℕ) (w : A64 XReg) (r : XReg → ℕ) (f : Nzcv) → AllMakes IsBarred (a64_row xregs may place w r f)
row_barred may place w r f = computed_barred (a64_value w r f) f (a64_act xregs may place w r f) (act_barred may place w r f)

take_barred : (may : Permission) (o : Option (A64 XReg)) (t : AThread) → AllMakes IsBarred (a64_take may o t)
take_barred may None t = tt
take_barred may (Some a) t =
    makes_then IsBarred (a64_row xregs may t.at a (value xregs t.state) t.state.nzcv) (λ d. goes (record { at = moved t.at d.distance; state = after xregs (a64_result xregs a) d t.state }))
    (row_barred may t.at a (value xregs t.state) t.state.nzcv) (λ d. tt)

-- the fences of a thread of words are DMBs
pub a64_barred : (may : Permission) (first : ℕ) (words : List ℕ) (t : AThread) → AllMakes IsBarred (a64_step may first words t)
a64_barred may first words t = take_barred may (option_and_then a64_of (word_at first words t.at)) t
