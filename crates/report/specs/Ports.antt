-- How a set of ports is written.
use Rattle.std.specs.Prelude.{ℕ, List, [], ◌∷◌, ◌++◌, filter, codes, decimal}
use Rattle.std.specs.List.{flat_map, range_with_len}
use Rattle.spb_types.specs.declared.ports.PortSet.{PortSet}
use Rattle.spb_types.specs.Ports.{has}

-- those of the numbers from 1 to `count` that are ports of the set, ascending
unfoldable pub ports_among : PortSet → ℕ → List ℕ
ports_among set count = filter (has set) (range_with_len 1 count)

-- the ports of a set, ascending
abbrev pub ports_of : PortSet → List ℕ
ports_of set = ports_among set 32

-- numbers with a comma between each two, or `-` where there is none
abbrev pub listed : List ℕ → List ℕ
listed [] = codes "-"
listed (n ∷ ns) = decimal n ++ flat_map (λ m. codes "," ++ decimal m) ns

-- how a set of ports is written
unfoldable pub ports_text : PortSet → List ℕ
ports_text set = listed (ports_of set)
