-- The bytes that a disk in memory holds.
use Rattle.std.specs.Prelude.{ℕ, List}
use Rattle.room_disk.specs.declared.memory.MemoryDisk.{MemoryDisk}

abbrev pub bytes_of : MemoryDisk → List ℕ
bytes_of m = m.bytes.items
