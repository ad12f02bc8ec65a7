-- Why the rooms of a server weren't all opened.
use Rattle.std.specs.Prelude.{◌≡◌, ◌⊎◌, ◌<◌, ◌++◌, ℕ, List, length, Option, Some, option_map, slice_get}
use Rattle.board_links.specs.Faults.{HasRisen}
use Rattle.object_journal.specs.Opening.{IsRefused}
use Rattle.object_journal.specs.declared.replaying.OpenNo.{OpenNo}
use Rattle.object_journal.specs.declared.replaying.OpenNo.TheVariants.{DiskFault, NoMemory}
use Rattle.room_journal.specs.Kept.{may_follow}

-- there was no memory, or the shelf, which gave these disks, had none for a further room, and its count of faults has risen
abbrev pub LacksDisk : {D : Type 0} → ℕ → List D → ℕ → ℕ → OpenNo → Type 0
LacksDisk rooms disks shelf_faults shelf_faults_after why = (why ≡ NoMemory) ⊎ ((why ≡ DiskFault) × (length disks < rooms) × HasRisen shelf_faults shelf_faults_after)

-- over disks with these meanings
module _ {D : Type 0} (is_told : D → Type 0) (seen : D → List ℕ) (faults : D → ℕ) where
  -- the file of a room was refused, as it stood on the disk that the shelf gave for it
  pub record WasRefused (disks : List D) (why : OpenNo) : Type 0 where
    pub room : ℕ
    pub disk : D
    pub after : D
    pub at : slice_get disks room ≡ Some disk
    pub refused : IsRefused (may_follow room) is_told seen faults disk after why

  -- of so many rooms one wasn't opened, and the shelf gave these disks for them
  pub record WereRefused (rooms : ℕ) (given given_after : Option (List D)) (shelf_faults shelf_faults_after : ℕ) (why : OpenNo) : Type 0 where
    pub disks : List D
    pub gave : given_after ≡ option_map (λ before. before ++ disks) given
    pub cause : LacksDisk rooms disks shelf_faults shelf_faults_after why ⊎ WasRefused disks why
