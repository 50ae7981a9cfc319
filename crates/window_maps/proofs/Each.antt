-- Each map by computation, address by address; a lemma each, since the steps of one declaration are limited.
use Rattle.std.proofs.Common.{◌≡◌, [], ◌∷◌, refl}
use Rattle.flat.specs.Maps.{map_of}
use Rattle.sweep.specs.Maps.{stretches}
use Rattle.tree.specs.Search.{search}
use Rattle.windows.specs.Windows.{w1, w2, w3, w4, w5, w6, w7, w8}
use Rattle.window_maps.specs.Maps.{range}

pub map_1 : map_of w1 ≡ []
unfolding map_of stretches search
map_1 = refl

pub map_2 : map_of w2 ≡ range 0x2000 0x1000 1 0 ∷ []
unfolding map_of stretches search
map_2 = refl

pub map_3 : map_of w3 ≡ range 0x2000 0x800 1 0 ∷ range 0x2800 0x1000 2 0 ∷ []
unfolding map_of stretches search
map_3 = refl

pub map_4 : map_of w4 ≡ range 0x2000 0x1000 1 0 ∷ range 0x3000 0x800 2 0x800 ∷ []
unfolding map_of stretches search
map_4 = refl

pub map_5 : map_of w5 ≡ range 0x2000 0x1000 1 0 ∷ []
unfolding map_of stretches search
map_5 = refl

pub map_6 : map_of w6 ≡ range 0xf800 0x800 1 0 ∷ []
unfolding map_of stretches search
map_6 = refl

pub map_7 : map_of w7 ≡ range 0x8000 0x400 1 0xc00 ∷ []
unfolding map_of stretches search
map_7 = refl

pub map_8 : map_of w8 ≡ range 0x8000 0x1000 1 0 ∷ []
unfolding map_of stretches search
map_8 = refl
