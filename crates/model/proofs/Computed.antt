-- All that computes. A claim on closed records with the line `unfolding computed` is closed by `refl`.
use Rattle.model.specs.Assign
use Rattle.model.specs.Block
use Rattle.model.specs.Body
use Rattle.model.specs.Calls
use Rattle.model.specs.Collect
use Rattle.model.specs.Crate
use Rattle.model.specs.Frame
use Rattle.model.specs.Function
use Rattle.model.specs.Ghosts
use Rattle.model.specs.Measure
use Rattle.model.specs.Merge
use Rattle.model.specs.Passes
use Rattle.model.specs.Place
use Rattle.model.specs.Record
use Rattle.model.specs.Replay
use Rattle.model.specs.Rounds
use Rattle.model.specs.Source
use Rattle.model.specs.State
use Rattle.model.specs.Tree
use Rattle.model.specs.Types
use Rattle.model.specs.Walk
use Rattle.model.specs.Whole
use Rattle.model.specs.Words
use Rattle.model.proofs.Build

-- of a pair over Tree and Forest one name opens both
unfoldable pub computed : Unit {0}
unfolding
    Words.all Words.sum Words.count_below Words.collect_from
    Types.kind Types.count Types.offset Types.part Types.pointer Types.fielded Types.shut Types.sticky Types.below Types.form
    Types.parts Types.owner Types.first Types.kids Types.casts Types.discriminant Types.type_sizes Types.counts_add
    Types.field_ok Types.fields_ok Types.pointee_ok Types.variant_ok Types.variants_ok Types.type_ok Types.all_types_ok
    Types.types_ok Types.types_length
    Tree.size Tree.leaves Tree.settle Tree.join Tree.meet Tree.flags
    Source.filled Source.stayed Source.met Source.first Source.second Source.modified
    State.codes State.padded State.encode State.read_each State.opens State.read_node State.read_tree State.pairs State.shaped
    State.decode State.local_ok State.locals_ok
    Place.steps Place.spot_ok Place.used_ok Place.fold_ok Place.unfold_ok Place.same_elem Place.same_place Place.same_spot
    Walk.opened Walk.opening Walk.enter Walk.step Walk.walk Walk.wide Walk.reached Walk.changed Walk.passed Walk.project Walk.project_at
    Walk.carry Walk.carry_at Walk.fitting Walk.projection Walk.cast_at Walk.downcasting Walk.enum_at Walk.subject_at
    Collect.hop Collect.lift Collect.unfolds Collect.collect Collect.folds Collect.folds_at_ret
    Collect.bare Collect.first_clash Collect.returned
    Function.local_types Function.start Function.rank Function.op Function.arg Function.stop Function.follow_table
    Function.may_follow Function.after Function.arg_ok Function.function_sizes Function.starts_ok Function.ranks_ok
    Function.items_from Function.items_ok Function.function_ok Function.function_length
    Block.root_before Block.elem_of Block.elems Block.spot_before Block.uses_place Block.place_ok Block.places_ok
    Block.is_station Block.station Block.stations Block.entry_uses Block.targets Block.incoming Block.is_join_point
    Block.join_points Block.returns Block.latest_note Block.place_read Block.match_at Block.matched Block.is_arm Block.arm_value
    Frame.mark Frame.next Frame.says Frame.goto Frame.leave Frame.work Frame.enter Frame.visit Frame.opening
    Rounds.loop Rounds.run_rounds Rounds.better Rounds.lowest Rounds.put Rounds.elem Rounds.left
    Passes.absorb Passes.merge Passes.arrive Passes.take_in Passes.round Passes.weigh Passes.load Passes.solve Passes.infer
    Passes.hear Passes.arrived Passes.reconcile Passes.arrive_at Passes.take_down Passes.round_two Passes.unvisited
    Passes.elaborate Passes.analyse
    Measure.loose Measure.stuck Measure.measure
    Body.enter_uses Body.use_at Body.pass_stations Body.variants_from Body.variants Body.variant_of Body.without Body.only
    Body.choice Body.open_variant Body.match_targets Body.unopened Body.match_exits Body.exits_of Body.ret_lines Body.body Body.frame
    Record.elem_entry Record.verb_entry Record.point_entry Record.line_entries Record.entries Record.statement_record
    Record.writable Record.lent Record.numbers Record.gather_one Record.gather Record.recorded
    Whole.passes Whole.ghost_statements Whole.with_buffer Whole.share Whole.joined Whole.shares Whole.accepted Whole.denied
    Whole.result Whole.shorter Whole.found Whole.whole Whole.with_numbers Whole.found_told Whole.told_of Whole.whole_told
    Merge.kinds Merge.counts Merge.all_parts Merge.moved_part Merge.moved_parts Merge.moved_below Merge.heads Merge.merged
    Merge.sums_ok Merge.merge_types Merge.merged_lent Merge.record_in Merge.moved_function
    Crate.records Crate.spare Crate.stopped_at Crate.calls Crate.from_first Crate.crate_statements
    Calls.typed Calls.taken Calls.elems_of Calls.spot_of Calls.placed Calls.recorded_verb Calls.recorded_as
    Calls.call_projection Calls.call_downcast Calls.statement_ok Calls.statement_at Calls.call_carry Calls.call_join
    Calls.written Calls.call_collect Calls.call_unfolds Calls.call_folds
    Assign.read_items Assign.read_operand Assign.read_operands Assign.read_assign Assign.read_list Assign.places Assign.items_in
    Assign.operand_ok Assign.operands_ok Assign.flag_ok Assign.count_ok Assign.wants_place Assign.constants_ok Assign.known
    Assign.all_known Assign.acted Assign.dereffed Assign.operand_gives Assign.operands_give Assign.gives Assign.given
    Assign.statements_of Assign.statement_items Assign.item_record Assign.items_lent
    Replay.at_point Replay.find Replay.look Replay.stand Replay.through Replay.opens_at Replay.cast_maybe Replay.own Replay.script
    Replay.play Replay.replay
    Ghosts.close Ghosts.digit Ghosts.scan_byte Ghosts.scan Ghosts.words_of
    Ghosts.function_words Ghosts.analysed Ghosts.decimal Ghosts.elem_text Ghosts.place_text Ghosts.point_text Ghosts.verb_text
    Ghosts.told_text Ghosts.line_text Ghosts.lines_text Ghosts.answer_text Ghosts.printed Ghosts.ghosts
    Build.state_of
computed = tt
