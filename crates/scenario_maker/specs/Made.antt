-- The script that is made for n bridges: a ring of n bridges with chords, and a service for each with three members.
use Rattle.std.specs.Prelude.{ℕ, ◌+◌, ◌-◌, ◌*◌, ◌/◌, ◌%◌, ◌==◌, nat_lt, if◌then◌else◌, List, [], ◌∷◌, ◌++◌, map, flat_map, codes, decimal}
use Rattle.std.specs.List.{range_with_len}
use Rattle.scenario.specs.declared.command.Command.{Command}
use Rattle.spb_types.specs.declared.service.Mode.TheVariants.{Both}
use Rattle.scenario.specs.declared.command.Command.TheVariants.{Vid, Bridge, Link, Isid, Attach, Down, Restart, Round, Drain, Frame, Show, Wiring}

-- ---- Numbers and names: bridges, links and services are numbered from 1

abbrev pub numbers : ℕ → List ℕ
numbers n = range_with_len 1 n

abbrev pub bridge_name : ℕ → List ℕ
bridge_name k = codes "b" ++ decimal k

abbrev pub ring_name : ℕ → List ℕ
ring_name k = codes "r" ++ decimal k

abbrev pub chord_name : ℕ → List ℕ
chord_name k = codes "c" ++ decimal k

-- a number above n begins again behind n, at 1
abbrev pub wrapped : ℕ → ℕ → ℕ
wrapped n m = if nat_lt n m then m - n else m

-- on the ring of n, the bridge behind bridge k, and the one across it
abbrev pub next_of : ℕ → ℕ → ℕ
next_of n k = wrapped n (k + 1)

abbrev pub across : ℕ → ℕ → ℕ
across n k = wrapped n (k + n / 2)

-- ---- The network

-- the base VIDs, each with an ECT algorithm of its own
abbrev pub base_vids : List Command
base_vids = Vid 10 1 ∷ Vid 20 2 ∷ []

-- of bridge k the number is the last byte of its system id, and its SPSourceID
abbrev pub bridge : ℕ → Command
bridge k = Bridge (bridge_name k) 32768 (record { bytes = 2 ∷ 0 ∷ 0 ∷ 0 ∷ 0 ∷ k ∷ [] }) (record { value = k }) 3

-- from port 1 of a bridge to port 2 of the next one; three metrics take turns
abbrev pub ring_link : ℕ → ℕ → Command
ring_link n k = Link (ring_name k) (bridge_name k) 1 (bridge_name (next_of n k)) 2 (10 + k % 3)

-- between the ports 3 of a bridge in the first half and of the one across it
abbrev pub chord : ℕ → ℕ → Command
chord n k = Link (chord_name k) (bridge_name k) 3 (bridge_name (across n k)) 3 25

-- every third bridge of the first half has a chord, from bridge 1 on
abbrev pub chord_count : ℕ → ℕ
chord_count n = (n / 2 + 2) / 3

abbrev pub chord_start : ℕ → ℕ
chord_start i = 3 * i - 2

abbrev pub nth_chord : ℕ → ℕ → Command
nth_chord n i = chord n (chord_start i)

abbrev pub bridges : ℕ → List Command
bridges n = map bridge (numbers n)

abbrev pub ring : ℕ → List Command
ring n = map (ring_link n) (numbers n)

abbrev pub chords : ℕ → List Command
chords n = map (nth_chord n) (numbers (chord_count n))

abbrev pub network : ℕ → List Command
network n = base_vids ++ bridges n ++ ring n ++ chords n

-- ---- The services

abbrev pub isid_of : ℕ → ℕ
isid_of k = 1000 + k

-- odd services are in the first base VID, even ones in the second
abbrev pub vid_of : ℕ → ℕ
vid_of k = if k % 2 == 1 then 10 else 20

abbrev pub service : ℕ → Command
service k = Isid (isid_of k) (vid_of k)

-- a customer port of the bridge becomes a member of service k, one that sends and receives
abbrev pub attach : ℕ → ℕ → ℕ → Command
attach at port k = Attach (bridge_name at) port (isid_of k) Both

-- service k has a customer port at bridge k, at the next one, and at the one across
abbrev pub members : ℕ → ℕ → List Command
members n k = attach k 1 k ∷ attach (next_of n k) 2 k ∷ attach (across n k) 3 k ∷ []

abbrev pub services : ℕ → List Command
services n = map service (numbers n)

abbrev pub attachments : ℕ → List Command
attachments n = flat_map (members n) (numbers n)

-- ---- What happens then

-- the tables of a bridge, as they are and as they should be
abbrev pub questions_of : ℕ → List Command
questions_of k = Show (bridge_name k) ∷ Wiring (bridge_name k) ∷ []

abbrev pub questions : ℕ → List Command
questions n = flat_map questions_of (numbers n)

-- rounds, in which the network should become quiet, and then the questions about each bridge
abbrev pub convergence : ℕ → List Command
convergence n = Round (4 * n + 16) ∷ questions n

-- a frame of customer k to all: the broadcast address, the customer's own, and two bytes
abbrev pub frame_bytes : ℕ → List ℕ
frame_bytes k = 255 ∷ 255 ∷ 255 ∷ 255 ∷ 255 ∷ 255 ∷ 10 ∷ 0 ∷ 0 ∷ 0 ∷ 0 ∷ k ∷ 8 ∷ 0 ∷ []

-- it enters at the first member of service k, and what comes of it is delivered
abbrev pub sent : ℕ → List Command
sent k = Frame (bridge_name k) 1 (frame_bytes k) ∷ Drain 100000 ∷ []

abbrev pub traffic : ℕ → List Command
traffic n = flat_map sent (numbers n)

-- ---- The whole script: all is declared, the network gets quiet, a link fails, and a bridge starts anew

abbrev pub declarations : ℕ → List Command
declarations n = network n ++ services n ++ attachments n

abbrev pub after_failure : ℕ → List Command
after_failure n = Down (ring_name 1) ∷ convergence n

abbrev pub after_restart : ℕ → List Command
after_restart n = Restart (bridge_name 2) ∷ convergence n ++ traffic n

abbrev pub events : ℕ → List Command
events n = convergence n ++ traffic n ++ after_failure n ++ after_restart n

abbrev pub made : ℕ → List Command
made n = declarations n ++ events n
