-- What is asked of instructions, by how control goes on after them.
use Rattle.std.proofs.Common.{◌≡◌, ℕ, List, [], ◌∷◌, ◌++◌, refl, sym, ◌∙◌}
use Rattle.x64_syntax.specs.declared.instr.Instr.{Instr}
use Rattle.x64_syntax.specs.declared.instr.Instr.TheVariants as instr
use Rattle.x64_syntax.specs.declared.placed.Flow.{Flow}
use Rattle.x64_syntax.specs.declared.placed.Flow.TheVariants as flow
use Rattle.cfg_walk.specs.declared.way.Way.{Way}
use Rattle.cfg_walk.specs.declared.way.Way.TheVariants as way
use Rattle.cfg_walk.specs.Reach.{after, after_call, after_jump}
use Rattle.cfg_walk.specs.Blocks.{where_plain, called, returned_to, led}
use Rattle.cfg_walk.specs.Ways.{way_of}

jump_is : (f : Flow) (target : ℕ) → after_jump f target ≡ where_plain f target
jump_is flow.Plain target = refl
jump_is f target = refl

call_is : (f : Flow) (target end : ℕ) → after_call f target end ≡ where_plain f target ++ end ∷ []
call_is flow.Plain target end = refl
call_is f target end = refl

-- the successors by the way
abbrev pub way_after : Way → Flow → (end : ℕ) → List ℕ
way_after way.Falls f end = end ∷ []
way_after (way.Jumps target) f end = where_plain f target
way_after (way.Branches target) f end = target ∷ end ∷ []
way_after (way.Calls target) f end = where_plain f target ++ end ∷ []
way_after way.Stops f end = []

-- where blocks begin by the way
abbrev pub way_led : Way → Flow → (end : ℕ) → List ℕ
way_led way.Falls f end = []
way_led (way.Jumps target) f end = where_plain f target
way_led (way.Branches target) f end = target ∷ end ∷ []
way_led (way.Calls target) f end = where_plain f target ++ end ∷ []
way_led way.Stops f end = []

-- the target of a call that is not listed, by the way
abbrev pub way_called : Way → Flow → (end : ℕ) → List ℕ
way_called (way.Calls target) f end = where_plain f target
way_called w f end = []

-- where a call that is not listed returns to, by the way
abbrev pub way_returned : Way → Flow → (end : ℕ) → List ℕ
way_returned (way.Calls target) f end = where_plain f end
way_returned w f end = []

pub after_is : (i : Instr) (f : Flow) (end : ℕ) → after i f end ≡ way_after (way_of i end) f end
after_is (instr.Jmp displacement) f end = jump_is f _
after_is (instr.Call displacement) f end = call_is f _ end
after_is i f end = refl

led_call : (displacement : ℕ) (f : Flow) (end : ℕ) → led (instr.Call displacement) f end ≡ way_led (way_of (instr.Call displacement) end) f end
led_call displacement flow.Plain end = refl
led_call displacement f end = refl

pub led_is : (i : Instr) (f : Flow) (end : ℕ) → led i f end ≡ way_led (way_of i end) f end
led_is (instr.Call displacement) f end = led_call displacement f end
led_is i f end = refl

-- an instruction that does not fall leads to where control may go on behind it
pub leads_on : (i : Instr) (f : Flow) (end : ℕ) → (way_of i end ≡ way.Falls → ⊥) → after i f end ≡ led i f end
leads_on i f end other = after_is i f end ∙ by_way (way_of i end) other ∙ sym (led_is i f end)
  where
    by_way : (w : Way) → (w ≡ way.Falls → ⊥) → way_after w f end ≡ way_led w f end
    by_way way.Falls not_it = absurd (not_it refl)
    by_way w not_it = refl

pub called_is : (i : Instr) (f : Flow) (end : ℕ) → called i f end ≡ way_called (way_of i end) f end
called_is (instr.Call displacement) f end = refl
called_is i f end = refl

pub returned_is : (i : Instr) (f : Flow) (end : ℕ) → returned_to i f end ≡ way_returned (way_of i end) f end
returned_is (instr.Call displacement) f end = refl
returned_is i f end = refl
