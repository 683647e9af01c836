-- What an accepted function record says of its blocks, points and items, and what the passes and the replay of it rest on. It starts from
-- base's `FunctionFacts`. In the order in which a reader should meet them, each theorem above the file that has it:

-- THE ITEMS
-- the blocks as ranges of items; the block in which an item lies: holds_owner, owner_holds
pub mod Ranges
-- which item may follow which, computed over the table: checked_at
pub mod Follow
-- what stands before each item: item_follows, entry_follows; each block is ended at its stop: block_ends
pub mod Items
-- where places stand: part_placed, note_reads
pub mod Places
-- the ender of a block: block_ender, ender_last, target_last
pub mod Enders
-- THE GRAMMAR of document 01 holds: entry_grammar, block_grammar
pub mod Grammar
-- THE GRAPH
-- 1. WAYS rests on this: targets name blocks, and a block that is no join point has one incoming target item at most: frame_edges
pub mod Targets
-- a block's run leaves by its targets, and records at its own points: frame_listed, frame_points
pub mod Points
-- a match on an array's element, and on any other place: element_exits, element_own; enum_exits, enum_own
pub mod Elements
-- every place used has passed refusal 4: stations_used, matched_used, entry_used
pub mod Used
-- THE REPLAY OF A BLOCK
-- what is asked of the trees: `Trees`
pub mod Trees
-- through a block's statements the replay comes where its run did: ran_gone
pub mod Through
-- and by each of its targets: exits_depart
pub mod Departs
-- DEMAND 3
-- document 01's replay is the solver's: replay_same
pub mod Bridge
-- the function's frame meets all that the solver asks: frame_lawful
pub mod Lawful
-- 5. DEMAND 3 over a function record, given what is asked of the trees: passes_replayed
pub mod Demand
-- the numbers beside its statements say where openings began: passes_numbered
pub mod Told
