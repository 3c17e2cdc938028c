-- 01's worked addresses, marked P, as a single closed statement.
-- By computation.
use Rattle.std.specs.Prelude.{◌≡◌, refl, [], ◌∷◌, map, Ok}
use Rattle.parts.specs.Table.{parts, part_of, frame_count}
use Rattle.parts.specs.Columns.{columns_from, runs, columns_of}
use Rattle.parts.specs.FrameAddress.{address, address_in, address_for, frame_address}

-- 01, "Worked by hand": ten frames of the XC3S400, device 2; five of them stand in 001's Figure 12
pub xc3s400_addresses :
    map (frame_address 2) (0 ∷ 3 ∷ 6 ∷ 8 ∷ 139 ∷ 176 ∷ 576 ∷ 577 ∷ 579 ∷ 766 ∷ [])
    ≡ map Ok
    (0x00000000 ∷ 0x00020000 ∷ 0x00040200 ∷ 0x00040600 ∷ 0x00120200 ∷ 0x00160000 ∷ 0x00400200 ∷ 0x02000000 ∷ 0x02000400 ∷ 0x04022400 ∷ [])
unfolding parts part_of frame_count columns_from runs columns_of address address_in address_for
xc3s400_addresses = refl
