-- The theorems about records, the sixth part beside the five of the crate laws: state records, statement records, and the texts of
-- `ghosts`. There is no code in them. What a type record and a function record say that pass is in the crate base (Typed, Function). In
-- the order in which a reader should meet them:

-- 6. STATE RECORDS
-- what contracts say of them: `Coded`, `Here`, `Written`, `Shaped`, `Holds`
pub mod Here
-- lists: pairs, zeros, windows
pub mod Pairs
pub mod Window
-- their codes and their shape; what may be open, as a reader tells it
pub mod Codes
pub mod Shape
pub mod Opens
-- a record that holds a state is that state's record, and back: holds_encode, encode_holds
pub mod Holds
-- a state that fits is read back (decode_encode), and a record determines its state (holds_unique, encode_injective)
pub mod Decode
-- what is accepted has the record that was read: encode_decode
pub mod Encode
-- a tree in the two arrays, as code reads it, node by node and part by part
pub mod Coded
pub mod CodedParts
-- as code puts it together, and writes it from the front
pub mod Built
pub mod Written
-- where code refuses: no tree stands there
pub mod Absent
-- STATEMENT RECORDS
-- their entries, as they stand in the words: entries_next, entries_written
pub mod Entries
-- what is written is read back: recorded_written, recorded_lent
pub mod Recorded
-- places as items, as the calls on states take them: spot_back, spot_items
pub mod Spots
-- TEXTS
-- the tokenizer: its pieces do not matter (words_pieces), what is spoilt stays spoilt, what it keeps are words
pub mod Scanned
-- numbers as they are printed: their digits, and that they are read back (scan_number)
pub mod Digits
-- words printed with a blank behind each are read back: words_spaced
pub mod Texts
