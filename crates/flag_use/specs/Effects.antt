-- The table of effects on flags, as the code has it.
use Rattle.alu_width.specs.Effects as table
use Rattle.flag_use.specs.declared.effects.Effect.{Effect}
use Rattle.flag_use.specs.declared.effects.Effect.TheVariants.{Kept, Defined, Undefined}
use Rattle.flag_use.specs.declared.effects.Effects.{Effects}

-- the effect of the table that one of the code stands for
abbrev pub effect_told : Effect → table.Effect
effect_told Kept = table.Kept
effect_told Defined = table.Defined
effect_told Undefined = table.Undefined

-- the row of the table
abbrev pub effects_told : Effects → table.Effects
effects_told e = table.effects (effect_told e.cf) (effect_told e.zf) (effect_told e.sf) (effect_told e.of)
