-- Steps of a walk.
use Rattle.std.proofs.Common.{◌≡◌, ◌≢◌, ◌⊎◌, ℕ, suc, ◌+◌, ◌<◌, ◌≤◌, ◌^◌, List, [], ◌∷◌, ◌++◌, length, length-drop, drop, min, ◌-◌, Option, Some, None, refl, sym, ap, ◌∙◌, subst, arith, inl, inr}
use Rattle.std.specs.Prelude.{IfSome, slice_get, option_and_then}
use Rattle.ev_graph.specs.declared.events.End.TheVariants.{Running, Trap}
use Rattle.ev_graph.specs.declared.events.TrapKind.TheVariants.{BadJump}
use Rattle.ev_graph.specs.declared.events.Access.{Access}
use Rattle.ev_graph.specs.declared.events.End.{End}
use Rattle.ev_graph.specs.declared.events.Item.{Item}
use Rattle.ev_graph.specs.declared.execution.Stack.{Stack}
use Rattle.ev_graph.specs.declared.rows.RowItems.{RowItems}
use Rattle.ev_graph.specs.Memory.{allows}
use Rattle.elf_write.specs.declared.image.Image.{Image}
use Rattle.behavior.specs.Tree.{Tree, Gives, Begins, Acts, Next, Goes, Stops, ◌then◌}
use Rattle.behavior.specs.Acts.{Permission, goes}
use Rattle.behavior.specs.Rest.{ComesTo, past-begin}
use Rattle.a64_code.specs.declared.instr.XReg.{XReg}
use Rattle.a64_code.specs.declared.instr.A64.{A64}
use Rattle.a64_code.specs.Ranges.{IsEncodable}
use Rattle.a64_code.specs.Decoding.{a64_of}
use Rattle.a64_code.proofs.CallerLemmas.{spelled}
use Rattle.a64_table.specs.declared.rows.ARow.{ARow}
use Rattle.a64_table.specs.declared.rows.ARow.TheVariants as rows
use Rattle.a64_table.specs.declared.rows.ANext.TheVariants as nexts
use Rattle.a64_table.specs.declared.rows.FenceChoice.{FenceChoice}
use Rattle.a64_table.specs.declared.state.A64State.{A64State}
use Rattle.a64_table.specs.declared.state.Done.{Done}
use Rattle.a64_table.specs.State.{xregs, value, held}
use Rattle.a64_table.specs.Rows.{a64_row, a64_result}
use Rattle.a64_table.specs.Answers.{row_answer, shown}
use Rattle.a64_table.specs.Laws.{row_tree}
use Rattle.a64_table.specs.Machine.{AThread, Shows, a64_take, a64_step, word_at}
use Rattle.a64_table.proofs.CallerLemmas.{row_shown, thread_after}
use Rattle.exec_text.specs.declared.exec_file.Given.{Given}
use Rattle.exec_text.specs.declared.exec_file.GivenThread.{GivenThread}
use Rattle.arm_replay.specs.declared.fault.ReplayKind.{ReplayKind}
use Rattle.arm_replay.specs.declared.walk.Walk.{Walk}
use Rattle.arm_replay.specs.declared.fault.ReplayFault.{ReplayFault}
use Rattle.arm_replay.specs.declared.fault.ReplayFault.TheVariants.{Run}
use Rattle.arm_replay.specs.declared.fault.ReplayKind.TheVariants.{Values, More, Steps}
use Rattle.arm_replay.specs.declared.made.Made.{Made}
use Rattle.arm_replay.specs.Values.{Takes}
use Rattle.arm_replay.specs.Faults.{most_steps, GoesOn, IsFaultAt, values, more, steps, IsThreadFault, EndsAtOnce}
use Rattle.arm_replay.specs.Memories.{low_cells, low_step}
use Rattle.arm_replay.specs.Walking.{told_at, listed, count_in, one, read_value, input_value, LineHasSources, ReadFits, IsMisfit, IsFitting, Keeps, Reaches, Stands, IsWalkFault}
use Rattle.arm_replay.proofs.Advances.{Advance, Lacks, Leads, leads, past}
use Rattle.arm_replay.proofs.MadeLemmas.{takes-append, ends-append}
use Rattle.arm_replay.proofs.RowShapes.{row_shape}
use Rattle.arm_replay.proofs.ValueLemmas.{first_of, first-drop, drop-drop}

-- the tree of a word, as a step of a thread
abbrev pub word_tree : Permission → A64 XReg → AThread → Tree (Next AThread)
word_tree may w t = a64_row xregs may t.at w (value xregs t.state) t.state.nzcv then (λ d. goes (thread_after (a64_result xregs w) d t))

-- what the answer of a word says of the tree behind its beginning
pub answer_leads : (may : Permission) (w : A64 XReg) (s : A64State) (t : AThread) (left : List Given) (row : ARow) → Shows s t → IsEncodable w
    → IfSome (input_value (first_of left)) (λ v. v < 2 ^ 64) → row ≡ row_answer w s may (read_value (first_of left)) (input_value (first_of left))
    → Leads s.at left (word_tree may w t) row
answer_leads may w s t left row shows range small e =
    let on : Done → Tree (Next AThread) = λ d. goes (thread_after (a64_result xregs w) d t) in
    let here = leads (a64_result xregs w) s t shows (row_tree w s may) left small (row_shape may s.at w (value xregs (held s)) (held s).nzcv) in
    let there = subst (λ tree. Leads s.at left (tree then on) (row_answer w s may (read_value (first_of left)) (input_value (first_of left)))) (row_shown s t w may shows range) here in
    subst (λ row. Leads s.at left (word_tree may w t) row) (sym e) there

-- who goes on and has not made all has made fewer
fewer_than : (thread : GivenThread) (have : ℕ) (left : List Given) → GoesOn thread have left → have ≢ thread.count → have < thread.count
fewer_than thread have left (inl fewer) other = fewer
fewer_than thread have left (inr past) other = absurd (other past.0)

-- who is to be cut and goes on has made fewer
running_fewer : (thread : GivenThread) (have : ℕ) (left : List Given) → GoesOn thread have left → thread.end ≡ Running → have < thread.count
running_fewer thread have left (inl fewer) running = fewer
running_fewer thread have left (inr past) running = absurd (past.2 running)

-- what fits has a read that fits, if it has one
read_fits : (have count : ℕ) (line : Option Given) (made : RowItems) → IsFitting have count line made → ReadFits line made
read_fits have count line made (inr fits) = fits.1
read_fits have count line made (inl none) = by made.read refl
  where
    by : (read : Option Access) → made.read ≡ read → IfSome read (λ (a : Access). LineHasSources a.size line × (a.value < 256 ^ a.size))
    by None e = tt
    by (Some a) e = absurd (omega (arith, none, ap one e))

-- the step of a thread whose state shows, by what stands at its address
step_at : (may : Permission) (first : ℕ) (words : List ℕ) (s : A64State) (t : AThread) (o : Option (A64 XReg)) → Shows s t
    → o ≡ option_and_then a64_of (word_at first words s.at) → a64_step may first words t ≡ a64_take may o t
step_at may first words s t o shows e =
    ap (λ at. a64_take may (option_and_then a64_of (word_at first words at)) t) shows.at ∙ ap (λ o. a64_take may o t) (sym e)

module _ (image : Image) (stacks : List Stack) (start : AThread) (k : ℕ) (thread : GivenThread) (walk : Walk) where
  abbrev step : AThread → Tree (Next AThread)
  step = low_step image stacks

  abbrev may : Permission
  may = allows (low_cells image stacks)

  abbrev left_there : List Given
  left_there = drop walk.taken thread.values

  abbrev stands_at : Option (A64 XReg) → Type 0
  stands_at o = o ≡ option_and_then a64_of (word_at image.code_address image.words walk.state.at)

  -- at an address where no instruction stands the thread ends
  pub no_word : (new : Walk) → new ≡ walk → stands_at None → Stands step start k thread walk → Reaches step start k thread new (Gives (Stops (Trap BadJump)))
  no_word new same e stands =
      let there = step_at may image.code_address image.words walk.state stands.state None stands.shows e in
      let reaches = stands.reaches in
      let here : Reaches step start k thread walk (Gives (Stops (Trap BadJump))) = record {
        made = reaches.made;
        keeps = reaches.keeps;
        comes = subst (λ tree. ComesTo step start reaches.made walk.begun tree) there reaches.comes;
        takes = reaches.takes;
        at_once = reaches.at_once;
      } in
      subst (λ w. Reaches step start k thread w (Gives (Stops (Trap BadJump)))) (sym same) here

  -- one instruction too many is a fault
  pub too_many : (w : A64 XReg) (fault : ReplayFault) → stands_at (Some w) → walk.begun ≡ most_steps → GoesOn thread walk.made.count left_there
      → fault ≡ Run (record { thread = k; item = walk.made.count; kind = Steps })
      → Stands step start k thread walk → IsWalkFault step start k thread fault
  too_many w fault e all goes_on is stands =
      let there = step_at may image.code_address image.words walk.state stands.state (Some w) stands.shows e in
      let reaches = stands.reaches in
      let many = reaches.keeps.many in
      let here : IsThreadFault step start thread walk.made.count Steps = record {
        made = reaches.made;
        begun = walk.begun;
        left = left_there;
        next = Begins (word_tree may w stands.state);
        comes = subst (λ tree. ComesTo step start reaches.made walk.begun tree) there reaches.comes;
        takes = reaches.takes;
        few = omega (arith, all);
        fault = subst (λ n. IsFaultAt thread n walk.begun left_there (Begins (word_tree may w stands.state)) walk.made.count Steps) many (steps goes_on all);
      } in
      subst (λ f. IsWalkFault step start k thread f) (sym is) (refl, here)

  -- behind the beginning of a word, with what its row has answered
  pub record Begun (row : ARow) : Type 0 where
    pub made : List Item
    pub keeps : Keeps k made walk.made
    pub tree : Tree (Next AThread)
    pub comes : ComesTo step start made (suc walk.begun) tree
    pub takes : Takes made thread.values left_there
    pub at_once : thread.end ≡ Running → walk.made.count ≡ thread.count → EndsAtOnce made
    pub leads : Leads walk.state.at left_there tree row

  pub begun : (w : A64 XReg) (row : ARow) → stands_at (Some w) → IsEncodable w → IfSome (input_value (slice_get thread.values walk.taken)) (λ v. v < 2 ^ 64)
      → row ≡ row_answer w walk.state may (read_value (slice_get thread.values walk.taken)) (input_value (slice_get thread.values walk.taken))
      → Stands step start k thread walk → Begun row
  begun w row e range small is stands =
      let there = step_at may image.code_address image.words walk.state stands.state (Some w) stands.shows e in
      let reaches = stands.reaches in
      let line = first-drop thread.values walk.taken in
      record {
        made = reaches.made;
        keeps = reaches.keeps;
        tree = word_tree may w stands.state;
        comes = past-begin (subst (λ tree. ComesTo step start reaches.made walk.begun tree) there reaches.comes);
        takes = reaches.takes;
        at_once = reaches.at_once;
        leads = answer_leads may w walk.state stands.state left_there row stands.shows range
            (subst (λ (l : Option Given). IfSome (input_value l) (λ v. v < 2 ^ 64)) line small)
            (is ∙ ap (λ l. row_answer w walk.state may (read_value l) (input_value l)) line);
      }

  -- the thread ends
  pub ends : (row : ARow) (made : RowItems) (fence : FenceChoice) (end : End) (new : Walk) → Begun row → row ≡ rows.Done made fence (nexts.End end)
      → new ≡ record walk { begun = walk.begun + 1 } → Reaches step start k thread new (Gives (Stops end))
  ends row made fence end new begun is same =
      let leads : begun.tree ≡ Gives (Stops end) = subst (λ row. Leads walk.state.at left_there begun.tree row) is begun.leads in
      let comes : ComesTo step start begun.made (suc walk.begun) (Gives (Stops end)) = subst (λ tree. ComesTo step start begun.made (suc walk.begun) tree) leads begun.comes in
      let more : suc walk.begun ≡ walk.begun + 1 = omega arith in
      let here : Reaches step start k thread (record walk { begun = walk.begun + 1 }) (Gives (Stops end)) = record {
        made = begun.made;
        keeps = begun.keeps;
        comes = subst (λ n. ComesTo step start begun.made n (Gives (Stops end))) more comes;
        takes = begun.takes;
        at_once = begun.at_once;
      } in
      subst (λ w. Reaches step start k thread w (Gives (Stops end))) (sym same) here

  -- a fault at the tree behind the beginning
  begun_fault : (row : ARow) (item : ℕ) (kind : ReplayKind) (fault : ReplayFault) (begun : Begun row) → walk.begun < most_steps
      → IsFaultAt thread walk.made.count (suc walk.begun) left_there begun.tree item kind → fault ≡ Run (record { thread = k; item = item; kind = kind })
      → IsWalkFault step start k thread fault
  begun_fault row item kind fault begun few at is =
      let here : IsThreadFault step start thread item kind = record {
        made = begun.made;
        begun = suc walk.begun;
        left = left_there;
        next = begun.tree;
        comes = begun.comes;
        takes = begun.takes;
        few = omega (arith, few);
        fault = subst (λ n. IsFaultAt thread n (suc walk.begun) left_there begun.tree item kind) begun.keeps.many at;
      } in
      subst (λ f. IsWalkFault step start k thread f) (sym is) (refl, here)

  -- what an answer says, at the answer
  pub lead_at : (row answer : ARow) → (begun : Begun row) → row ≡ answer → Leads walk.state.at left_there begun.tree answer
  lead_at row answer begun is = subst (λ row. Leads walk.state.at left_there begun.tree row) is begun.leads

  -- a value is missing
  pub lacks : (row : ARow) (fault : ReplayFault) (kind : ReplayKind) (begun : Begun row) → Lacks left_there begun.tree → walk.begun < most_steps
      → GoesOn thread walk.made.count left_there
      → ((walk.made.count ≡ thread.count) × (kind ≡ More)) ⊎ ((walk.made.count ≢ thread.count) × (kind ≡ Values))
      → fault ≡ Run (record { thread = k; item = walk.made.count; kind = kind }) → IsWalkFault step start k thread fault
  lacks row fault kind begun missing few goes_on (inl all) is =
      let at : IsFaultAt thread walk.made.count (suc walk.begun) left_there (Acts missing.range missing.make missing.next) walk.made.count More = more (past thread walk.made.count left_there goes_on all.0) missing.some in
      begun_fault row walk.made.count kind fault begun few
      (subst (λ kind. IsFaultAt thread walk.made.count (suc walk.begun) left_there begun.tree walk.made.count kind) (sym all.1)
      (subst (λ tree. IsFaultAt thread walk.made.count (suc walk.begun) left_there tree walk.made.count More) (sym missing.same) at)) is
  lacks row fault kind begun missing few goes_on (inr fewer) is =
      let at : IsFaultAt thread walk.made.count (suc walk.begun) left_there (Acts missing.range missing.make missing.next) walk.made.count Values =
      values (fewer_than thread walk.made.count left_there goes_on fewer.0) missing.missing in
      begun_fault row walk.made.count kind fault begun few
      (subst (λ kind. IsFaultAt thread walk.made.count (suc walk.begun) left_there begun.tree walk.made.count kind) (sym fewer.1)
      (subst (λ tree. IsFaultAt thread walk.made.count (suc walk.begun) left_there tree walk.made.count Values) (sym missing.same) at)) is

  -- the row has made what does not fit
  pub misfits : (row : ARow) (made : RowItems) (fence : FenceChoice) (next : A64State) (kind : ReplayKind) (item : ℕ) (fault : ReplayFault) → Begun row
      → row ≡ rows.Done made fence (nexts.State next) → walk.begun < most_steps → GoesOn thread walk.made.count left_there
      → IsMisfit walk.made.count thread.count (slice_get thread.values walk.taken) made kind → item ≡ told_at walk.made.count thread.count kind
      → fault ≡ Run (record { thread = k; item = item; kind = kind }) → IsWalkFault step start k thread fault
  misfits row made fence next kind item fault begun is few goes_on misfit told fault_is =
      let leads : Advance walk.state.at left_there begun.tree made fence next = subst (λ row. Leads walk.state.at left_there begun.tree row) is begun.leads in
      let line = first-drop thread.values walk.taken in
      let at = leads.misfit thread walk.made.count (suc walk.begun) kind goes_on (subst (λ l. IsMisfit walk.made.count thread.count l made kind) line misfit) in
      begun_fault row item kind fault begun few
      (subst (λ item. IsFaultAt thread walk.made.count (suc walk.begun) left_there begun.tree item kind) (sym told) at) fault_is

  -- the row has made what fits, and the walk goes on
  pub goes_on : (row : ARow) (made : RowItems) (fence : FenceChoice) (next : A64State) (kept : Made) (more_taken : ℕ) (new : Walk) → Begun row
      → row ≡ rows.Done made fence (nexts.State next) → GoesOn thread walk.made.count left_there
      → IsFitting walk.made.count thread.count (slice_get thread.values walk.taken) made
      → ((is : List Item) → Keeps k is walk.made → Keeps k (is ++ listed walk.state.at made fence) kept) → kept.count ≡ walk.made.count + count_in made
      → more_taken ≡ min (one made.read + one made.input) (length thread.values - walk.taken)
      → new ≡ record { state = next; made = kept; begun = walk.begun + 1; taken = walk.taken + more_taken }
      → Stands step start k thread new
  goes_on row made fence next kept more_taken new begun is goes fitting keeps count least same =
      let leads : Advance walk.state.at left_there begun.tree made fence next = subst (λ row. Leads walk.state.at left_there begun.tree row) is begun.leads in
      let line = first-drop thread.values walk.taken in
      let fits : ReadFits (first_of left_there) made = subst (λ l. ReadFits l made) line (read_fits walk.made.count thread.count (slice_get thread.values walk.taken) made fitting) in
      let comes = leads.comes step start begun.made (suc walk.begun) fits begun.comes in
      let more : suc walk.begun ≡ walk.begun + 1 = omega arith in
      let all_taken : one made.read + one made.input ≡ more_taken = omega (arith, leads.taken, length-drop walk.taken thread.values, least) in
      let taken : Takes (begun.made ++ listed walk.state.at made fence) thread.values (drop (walk.taken + more_taken) thread.values) =
      subst (λ n. Takes (begun.made ++ listed walk.state.at made fence) thread.values (drop (walk.taken + n) thread.values)) all_taken (subst (λ l. Takes (begun.made ++ listed walk.state.at made fence) thread.values l) (drop-drop thread.values walk.taken (one made.read + one made.input))
      (takes-append begun.made (listed walk.state.at made fence) thread.values left_there _ begun.takes (leads.takes fits))) in
      let there : Walk = record { state = next; made = kept; begun = walk.begun + 1; taken = walk.taken + more_taken } in
      let here : Stands step start k thread there = record {
        state = leads.state;
        shows = leads.shows;
        reaches = record {
          made = begun.made ++ listed walk.state.at made fence;
          keeps = keeps begun.made begun.keeps;
          comes = subst (λ n. ComesTo step start (begun.made ++ listed walk.state.at made fence) n (step leads.state)) more comes;
          takes = taken;
          at_once = λ running all.
              let fewer = running_fewer thread walk.made.count left_there goes running in
              let some : 0 < count_in made = omega (arith, fewer, all, count) in
              ends-append begun.made (listed walk.state.at made fence) (omega (arith, some, leads.counts)) (leads.at_once some);
        };
      } in
      subst (λ w. Stands step start k thread w) (sym same) here

-- the instruction that a word spells is in range
pub encodable : (o : Option ℕ) (w : A64 XReg) → option_and_then a64_of o ≡ Some w → IsEncodable w
encodable None w e = absurd (cc)
encodable (Some word) w e = (spelled word w e).0

-- there is room for what fits
pub room : (have count : ℕ) (line : Option Given) (made : RowItems) → IsFitting have count line made → have ≤ count → count < 2 ^ 32 → have + count_in made < 2 ^ 32
room have count line made (inl none) within small = omega (arith, none, within, small)
room have count line made (inr fits) within small = omega (arith, fits.0, small)
