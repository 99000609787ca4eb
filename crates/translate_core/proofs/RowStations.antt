-- The rows of instructions make what the plan counts of them.
use Rattle.std.proofs.Common.{◌≡◌, ℕ, ◌^◌, ◌%◌, Bool, true, false, ◌&&◌, List, [], ◌∷◌, ◌++◌, Option, Some, None, refl, sym, ap, ◌∙◌, subst}
use Rattle.std.specs.Prelude.{if◌then◌else◌, flat_map}
use Rattle.std.proofs.lemmas.List.{append-nil, append_assoc}
use Rattle.ev_graph.specs.declared.events.AccessKind.{AccessKind}
use Rattle.ev_graph.specs.declared.events.AccessKind.TheVariants as access
use Rattle.ev_graph.specs.declared.events.TrapKind.TheVariants.{BadAccess}
use Rattle.behavior.specs.Tree.{Tree, Gives, Acts, Next, Goes, Stops, ◌then◌}
use Rattle.behavior.specs.Acts.{Permission, access as access_item, goes, traps, reads, writes, makes, locked_write, takes_in, puts_out}
use Rattle.x64_syntax.specs.declared.slots.Slot.{Slot}
use Rattle.x64_syntax.specs.declared.slots.SlotKind.{SlotKind}
use Rattle.x64_syntax.specs.declared.slots.SlotKind.TheVariants.{Read, Write, Locked}
use Rattle.x64_table.specs.Rows.{Exit, Row}
use Rattle.x64_table.proofs.CallerLemmas.{Shape, ends, still, fence, read, write, change, lock, call-in, call-out, jump-in, jump-out}
use Rattle.fence_plan.specs.declared.gap.Gap.{Gap}
use Rattle.fence_plan.specs.Private.{slot_kind, hides}
use Rattle.fence_plan.specs.Gaps.{Station, Shared, Strong}
use Rattle.fence_plan.specs.Realized.{IsAct, silent, input, output, hidden, shared, pair, strong, Realizes}
use Rattle.fence_plan.specs.Realized as act

-- what counts of an access of a kind at a place
abbrev pub kind_station : (private : Slot → Bool) → (place : ℕ) → SlotKind → List Station
kind_station private place kind = if hides private (record { address = place; kind = kind }) then [] else Shared kind ∷ []

-- what counts of a row with accesses of these kinds, or of a fence
abbrev pub of_row : (private : Slot → Bool) → (place : ℕ) → List SlotKind → (fenced : Bool) → List Station
of_row private place kinds fenced = (if fenced then Strong ∷ [] else []) ++ flat_map (kind_station private place) kinds

module _ {S : Type 0} (private : Slot → Bool) (plan : S → Option (List Gap)) (Stands : S → List Station → Type 0) (after : List Station) (f : Exit → Tree (Next S))
    (later : (exit : Exit) → Realizes private plan Stands after (f exit)) where
  abbrev Makes : List Station → Tree (Next S) → Type 0
  Makes ss t = Realizes private plan Stands ss t

  gives_next : (next : Next Exit) → Makes after (Gives next then f)
  gives_next (Goes exit) = later exit
  gives_next (Stops end) = tt

  allowed_or : (b : Bool) (ss : List Station) (t : Tree (Next Exit)) → Makes ss (t then f) → Makes ss ((if b then t else traps BadAccess) then f)
  allowed_or true ss t makes = makes
  allowed_or false ss t makes = tt

  -- an unlocked access is what counts of its slot
  one_access : (place address size value : ℕ) (kind : AccessKind) (rest : List Station)
      → IsAct private (access_item kind false place address size value ∷ []) (kind_station private place (slot_kind kind) ++ rest) rest
  one_access place address size value access.Read rest = by (private (record { address = place; kind = Read })) refl
    where
      by : (b : Bool) → private (record { address = place; kind = Read }) ≡ b → IsAct private (access_item access.Read false place address size value ∷ []) (kind_station private place Read ++ rest) rest
      by true e = subst (λ c. IsAct private (access_item access.Read false place address size value ∷ []) ((if c then [] else Shared Read ∷ []) ++ rest) rest) (sym e) (hidden e)
      by false e = subst (λ c. IsAct private (access_item access.Read false place address size value ∷ []) ((if c then [] else Shared Read ∷ []) ++ rest) rest) (sym e) (shared e refl)
  one_access place address size value access.Write rest = by (private (record { address = place; kind = Write })) refl
    where
      by : (b : Bool) → private (record { address = place; kind = Write }) ≡ b → IsAct private (access_item access.Write false place address size value ∷ []) (kind_station private place Write ++ rest) rest
      by true e = subst (λ c. IsAct private (access_item access.Write false place address size value ∷ []) ((if c then [] else Shared Write ∷ []) ++ rest) rest) (sym e) (hidden e)
      by false e = subst (λ c. IsAct private (access_item access.Write false place address size value ∷ []) ((if c then [] else Shared Write ∷ []) ++ rest) rest) (sym e) (shared e refl)

  -- a read and what follows, a write and what follows
  makes_read : (b : Bool) (place address size : ℕ) (rest : List Station) (go : ℕ → Tree (Next Exit)) → ((v : ℕ) → Makes rest (go v then f))
      → Makes (kind_station private place Read ++ rest) ((if b then Acts (256 ^ size) (λ v. access_item access.Read false place address size v ∷ []) go else traps BadAccess) then f)
  makes_read b place address size rest go next =
      allowed_or b (kind_station private place Read ++ rest) (Acts (256 ^ size) (λ v. access_item access.Read false place address size v ∷ []) go)
      (λ v lt. (rest, one_access place address size v access.Read rest, next v))

  makes_write : (b : Bool) (place address size value : ℕ) (rest : List Station) (go : Tree (Next Exit)) → Makes rest (go then f)
      → Makes (kind_station private place Write ++ rest) ((if b then makes (access_item access.Write false place address size (value % 256 ^ size)) go else traps BadAccess) then f)
  makes_write b place address size value rest go next =
      allowed_or b (kind_station private place Write ++ rest) (makes (access_item access.Write false place address size (value % 256 ^ size)) go)
      (λ v lt. (rest, one_access place address size (value % 256 ^ size) access.Write rest, next))

  makes_lock : (b : Bool) (place address size : ℕ) (new : ℕ → Option ℕ) (exit : ℕ → Exit)
      → Makes (Shared Locked ∷ after) ((if b then Acts (256 ^ size) (λ v. access_item access.Read true place address size v ∷ locked_write place address size (new v)) (λ v. goes (exit v)) else traps BadAccess) then f)
  makes_lock b place address size new exit =
      allowed_or b (Shared Locked ∷ after) (Acts (256 ^ size) (λ v. access_item access.Read true place address size v ∷ locked_write place address size (new v)) (λ v. goes (exit v)))
      (λ v lt. (after, by v (new v), later (exit v)))
    where
      by : (v : ℕ) (o : Option ℕ) → IsAct private (access_item access.Read true place address size v ∷ locked_write place address size o) (Shared Locked ∷ after) after
      by v None = act.read refl refl
      by v (Some w) = pair refl refl refl refl

  -- one list of stations, and another behind it
  one_more : (ss : List Station) → (ss ++ []) ++ after ≡ ss ++ after
  one_more ss = ap (λ l. l ++ after) (append-nil ss)

  two_more : (ss rs : List Station) → (ss ++ (rs ++ [])) ++ after ≡ ss ++ (rs ++ after)
  two_more ss rs = append_assoc ss (rs ++ []) after ∙ ap (λ l. ss ++ l) (one_more rs)

  -- a row makes what counts of it, and then what its exits do
  pub row_realizes : {may : Permission} {place : ℕ} {row : Row} {kinds : List SlotKind} {fenced : Bool} → Shape may place row kinds fenced
      → Makes (of_row private place kinds fenced ++ after) (row then f)
  row_realizes ends = tt
  row_realizes (still {next = next}) = gives_next next
  row_realizes (fence {exit = exit}) = λ v lt. (after, strong refl, later exit)
  row_realizes {may} {place} (read address size next) =
      subst (λ ss. Makes ss (reads may place address size (λ v. Gives (next v)) then f)) (sym (one_more (kind_station private place Read)))
      (makes_read (may false address size) place address size after (λ v. Gives (next v)) (λ v. gives_next (next v)))
  row_realizes {may} {place} (write address size value exit) =
      subst (λ ss. Makes ss (writes may place address size value (goes exit) then f)) (sym (one_more (kind_station private place Write)))
      (makes_write (may true address size) place address size value after (goes exit) (later exit))
  row_realizes {may} {place} (change address size address' size' value exit) =
      subst (λ ss. Makes ss (reads may place address size (λ v. writes may place address' size' (value v) (goes (exit v))) then f)) (sym (two_more (kind_station private place Read) (kind_station private place Write)))
      (makes_read (may false address size) place address size (kind_station private place Write ++ after) (λ v. writes may place address' size' (value v) (goes (exit v)))
      (λ v. makes_write (may true address' size') place address' size' (value v) after (goes (exit v)) (later (exit v))))
  row_realizes {may} {place} (lock address size new exit) = makes_lock (may false address size && may true address size) place address size new exit
  row_realizes {may} {place} (call-in address size value exit) =
      subst (λ ss. Makes ss (writes may place address size value (takes_in place (λ v. goes (exit v))) then f)) (sym (one_more (kind_station private place Write)))
      (makes_write (may true address size) place address size value after (takes_in place (λ v. goes (exit v))) (λ v lt. (after, input, later (exit v))))
  row_realizes {may} {place} (call-out address size value given exit) =
      subst (λ ss. Makes ss (writes may place address size value (puts_out place given (goes exit)) then f)) (sym (one_more (kind_station private place Write)))
      (makes_write (may true address size) place address size value after (puts_out place given (goes exit)) (λ v lt. (after, output, later exit)))
  row_realizes {may} {place} (jump-in address size exit) = λ v lt. (
    (kind_station private place Read ++ []) ++ after,
    input,
    subst (λ ss. Makes ss (reads may place address size (λ w. goes (exit v w)) then f)) (sym (one_more (kind_station private place Read)))
        (makes_read (may false address size) place address size after (λ w. goes (exit v w)) (λ w. later (exit v w))),
  )
  row_realizes {may} {place} (jump-out address size given exit) = λ v lt. (
    (kind_station private place Read ++ []) ++ after,
    output,
    subst (λ ss. Makes ss (reads may place address size (λ w. goes (exit w)) then f)) (sym (one_more (kind_station private place Read)))
        (makes_read (may false address size) place address size after (λ w. goes (exit w)) (λ w. later (exit w))),
  )
