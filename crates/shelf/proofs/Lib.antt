pub mod SlotLists
