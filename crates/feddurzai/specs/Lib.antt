-- The definitions that the contracts of the calls cite, handed out under the library's name; each says at its head what it holds.

-- values
pub use Rattle.x86_values.specs.Wrapping
pub use Rattle.x86_values.specs.Modes
pub use Rattle.x86_values.specs.Named
pub use Rattle.x86_values.specs.Operands as InstrOperands
-- rows, and what bytes mean
pub use Rattle.opcode_rows.specs.Table
pub use Rattle.opcode_rows.specs.Allowed
pub use Rattle.opcode_rows.specs.Reading
pub use Rattle.opcode_rows.specs.Sweep
pub use Rattle.row_relation.specs.Spells
-- reading
pub use Rattle.decoder.specs.Answer as Decoding
pub use Rattle.decoder.specs.Items as DecodedItems
pub use Rattle.decoder.specs.Cursor
pub use Rattle.decoder.specs.ByteOffsets.Offsets as PartOffsets
pub use Rattle.code_items.specs.Sound as CodeLists
pub use Rattle.code_items.specs.Items as CodeItems
pub use Rattle.code_items.specs.Iteration
-- writing and texts
pub use Rattle.encoder.specs.Encoding
pub use Rattle.row_relation.specs.PlainLaws.Plain
pub use Rattle.intel_reader.specs.Assembled
pub use Rattle.code_assembler.specs.Routine
pub use Rattle.code_assembler.specs.Built as BuiltRoutines
pub use Rattle.code_assembler.specs.Finished as FinishedRoutines
pub use Rattle.assembly_text.specs.Origins as AssemblyOrigins
pub use Rattle.assembly_text.specs.Rounds as AssemblyRounds
pub use Rattle.assembly_text.specs.Text as AssemblyTexts
pub use Rattle.assembly_text.specs.TextLabels as AssemblyLabels
pub use Rattle.intel_text.specs.Text as IntelText
pub use Rattle.att_text.specs.Text as AttText
pub use Rattle.masm_text.specs.Text as MasmText
pub use Rattle.text_pieces.specs.Tokens as PlacedPieces
pub use Rattle.text_pieces.specs.Pieces as TextPieces
pub use Rattle.text_options.specs.Changed as ChangedText
pub use Rattle.text_options.specs.Answers as SymbolAnswers
pub use Rattle.text_options.specs.Defaults as DefaultOptions
pub use Rattle.text_options.specs.Kept as KeptBytes
-- what an instruction does
pub use Rattle.operand_info.specs.ByCode
pub use Rattle.operand_info.specs.Operands
pub use Rattle.instruction_info.specs.Effects
pub use Rattle.instruction_info.specs.Settings as EffectSettings
pub use Rattle.instruction_info.specs.Memory as TouchedMemory
pub use Rattle.instruction_info.specs.Registers as TouchedRegisters
pub use Rattle.instruction_info.specs.Laws as EffectLaws
-- moving
pub use Rattle.code_items.specs.Moving as MovingCode
pub use Rattle.move_goals.specs.Items as OldItems
pub use Rattle.move_goals.specs.Plan as MovePlan
pub use Rattle.block_encoder.specs.Moved
pub use Rattle.block_encoder.specs.ByPlan
pub use Rattle.block_encoder.specs.Aims
pub use Rattle.block_encoder.specs.Read as ReadBack
pub use Rattle.branch_sizes.specs.Plan as BranchPlan
pub use Rattle.branch_sizes.specs.Layout
-- regions and slots
pub use Rattle.code_region.specs.State as RegionState
pub use Rattle.code_region.specs.Opening
pub use Rattle.code_region.specs.Placing
pub use Rattle.code_region.specs.Releasing
pub use Rattle.code_region.specs.Filling
pub use Rattle.step_slots.specs.State as SlotState
pub use Rattle.step_slots.specs.Stepping as SlotSteps
pub use Rattle.step_slots.specs.Holding
pub use Rattle.step_slots.specs.Running as SlotCommands
pub use Rattle.step_slots.specs.Standing as StandingSteps
pub use Rattle.step_slots.specs.Done as DoneSteps
pub use Rattle.step_slots.specs.UnlistedStep as UnlistedSteps
pub use Rattle.step_slots.specs.Block as StepBlocks
pub use Rattle.step_slots.specs.Calling as CallSteps
pub use Rattle.block_encoder.specs.PushedCalls.Items as PushedItems
pub use Rattle.block_encoder.specs.PushedCalls.Pushes
pub use Rattle.block_encoder.specs.PushedCalls.Jumps as PushedJumps
pub use Rattle.block_encoder.specs.PushedCalls.Slots as PushedSlots
pub use Rattle.block_encoder.specs.PushedCalls.Facts as PushedFacts
pub use Rattle.step_slots.specs.Facts as SlotFacts
pub mod Stepping
-- flow
pub use Rattle.flow_graph.specs.Control
pub use Rattle.flow_graph.specs.Reached as ReachedOffsets
pub use Rattle.flow_graph.specs.ReachedFrom as ReachedFromOffsets
pub use Rattle.flow_graph.specs.Graphs
pub mod Reached
-- detours and hooks
pub use Rattle.detour.specs.Detours
pub use Rattle.detour.specs.Taken as TakenCode
pub use Rattle.detour.specs.Starts as MovedStarts
pub use Rattle.detour.specs.Ranges as AddressRanges
pub use Rattle.detour.specs.Rules as HookRules
pub use Rattle.detour.specs.Kept as KeptHooks
pub use Rattle.detour.specs.Padding as PaddingHooks
pub use Rattle.detour.specs.Lengths as TrampolineLengths
pub use Rattle.detour.specs.AnyDetours as UnlistedHooks
pub use Rattle.detour.specs.AnyTaken as UnlistedTaken
pub use Rattle.detour.specs.Writes as PatchWrites
pub use Rattle.detour.specs.HookSlots.State as HookState
pub use Rattle.detour.specs.HookSlots.Opening as HookOpening
pub use Rattle.detour.specs.HookSlots.Patches as HookPatches
pub use Rattle.detour.specs.HookSlots.Layers as HookLayers
pub use Rattle.detour.specs.HookSlots.Installing as HookInstalls
pub use Rattle.detour.specs.HookSlots.Undoing as HookUndoing
pub use Rattle.detour.specs.HookSlots.Removing as HookRemovals
pub use Rattle.detour.specs.HookSlots.Holding as HookHolding
pub use Rattle.detour.specs.HookSlots.Running as HookCommands
pub use Rattle.detour.specs.HookSlots.Facts as HookFacts
pub use Rattle.flow_graph.specs.HookSight.Sight as HookSight
pub use Rattle.flow_graph.specs.HookSight.Entries as HookEntries
pub use Rattle.flow_graph.specs.HookSight.Suspects as HookSuspects
pub use Rattle.flow_graph.specs.HookSight.Views as HookViews
pub use Rattle.flow_graph.specs.HookSight.Keeping as HookKeeping
-- streams
pub use Rattle.byte_ports.specs.Ports
pub use Rattle.sweep.specs.Streams
pub use Rattle.sweep.specs.Ends as StreamEnds
