-- What the code's types stand for, and what its functions ask.
-- Assumes nothing.
use Rattle.std.specs.Prelude.{ℕ, ◌+◌, ◌-◌, ◌*◌, ◌<◌, ◌≤◌, ◌≡◌, false, cond, ◌&&◌, List, [], ◌∷◌, ◌++◌, length, get_or, take, drop, replicate, ltb, leb, eqb, Result, Ok, Err}
use Rattle.algebra.specs.Ops.{Ops}
use Rattle.algebra.specs.Element.{Is}
use Rattle.field.specs.Words.{size, ops}
use Rattle.circuit.specs.Verdict.{Verdict, ask, ◌then◌, elements}
use Rattle.circuit.specs.Question.{number_of}
use Rattle.circuit.specs.declared.questions.Refusal.{Refusal}
use Rattle.circuit.specs.Gate.{gate, gates}
use Rattle.circuit.specs.Kind.{Class, Local, Owned, Opens, Output, shape}
use Rattle.circuit.specs.Count.{prep_size, prep_at, input_at, in_count, out_count, unchecked}
use Rattle.circuit.specs.Round.{First, Round, Own, Open, Commit, is_reveal, commit_words, nonce_size, reveal_words, words, coefficients_in, commits_in, word_count, coefficient_count, check_count}
use Rattle.circuit.specs.Accept.{most_gates}
use Rattle.circuit.specs.Valid.{Valid}
use Rattle.sha256.specs.Sha256.{words_of}
use Rattle.protocol.specs.Scratch.{layout, Value, read, band, written_at, marks_at, scratch_size, nonce_of, put_nonce, put_marks}
use Rattle.protocol.specs.Position.{Point, Send, finished}
use Rattle.protocol.specs.Send.{revealed, mark, check_share, sent, overwrite}
use Rattle.protocol.specs.Receive.{Nobody, heard_sum, received, settle}
use Rattle.protocol.specs.Holding.{Below, Opened}
use Rattle.protocol.specs.Code.{layout_of, blame_of}
use Rattle.protocol.specs.Ready.{Ready, Settles}
use Rattle.protocol.specs.declared.Site.{Site}
use Rattle.protocol.specs.Ask.{fewest_parties, most_parties}
use Rattle.protocol.specs.Joint.{Joint, joined, inputs_at, party, nonce_for}
use Rattle.protocol.specs.Run.{State, taken, said, step, released, most_rounds, whole}
use Rattle.protocol.specs.JointEntry as E
use Rattle.joint.specs.declared.Ending.{Ending}
use Rattle.joint.specs.declared.Ending.TheVariants.{Done, Aborted}
use Rattle.joint.specs.declared.Frame.{Frame}
use Rattle.joint.specs.declared.Stop.{Stop}

unfoldable pub ending_of : Ending → E.JointAnswer
ending_of (Done rounds) = E.Done rounds
ending_of (Aborted gate blame rounds) = E.Aborted gate (blame_of blame) rounds

unfoldable pub joint_answer_of : Result Ending Refusal → E.JointAnswer
joint_answer_of (Ok e) = ending_of e
joint_answer_of (Err r) = E.Refusal (number_of r.question) r.index

-- what a joint run is lent, from the lists of the code
abbrev pub joint_of : ℕ → List ℕ → List ℕ → List ℕ → List ℕ → List ℕ → Joint
joint_of n c preps inputs coefficients nonces =
    record { parties = n; circuit = c; preps = preps; inputs = inputs; coefficients = coefficients; nonces = nonces }

-- an array with a small number for each of n parties
pub record Small (n : ℕ) (counts : List ℕ) : Type 0 where
  pub eight : length counts ≡ most_parties
  pub each : (i : ℕ) → i < n → get_or counts i 0 ≤ most_gates

-- the inputs of each of n parties before gate j
pub record Counted (n : ℕ) (c : List ℕ) (j : ℕ) (counts : List ℕ) : Type 0 where
  pub eight : length counts ≡ most_parties
  pub each : (i : ℕ) → i < n → get_or counts i 0 ≡ input_at c i j

-- to each party's number in before its input at gate j is added
pub record CountedOn (n : ℕ) (c : List ℕ) (j : ℕ) (before counts : List ℕ) : Type 0 where
  pub eight : length counts ≡ most_parties
  pub each : (i : ℕ) → i < n → get_or counts i 0 + input_at c i j ≡ get_or before i 0 + input_at c i (j + 1)

-- where in the joined inputs each of n parties stands before gate j
pub record Placed (n : ℕ) (c : List ℕ) (j : ℕ) (places : List ℕ) : Type 0 where
  pub eight : length places ≡ most_parties
  pub each : (i : ℕ) → i < n → get_or places i 0 ≡ inputs_at c i + input_at c i j

-- where a run stands between two rounds: the point, where the record of its gate starts in each party's preprocessing, and how many
-- coefficients are used, checks begun, words written, outputs released and rounds made
pub record Course : Type 0 where
  pub point : Point
  pub prep : ℕ
  pub used : ℕ
  pub checks : ℕ
  pub written : ℕ
  pub released : ℕ
  pub rounds : ℕ

-- a run that stands at that point, with what is counted at a stop
abbrev pub course_of : Point → Stop → Course
course_of x s =
    record { point = x; prep = s.prep; used = s.used; checks = s.checks; written = s.written; released = s.released; rounds = s.rounds }

-- round r of gate j is due
abbrev pub due_at : ℕ → Round → Point
due_at j r = record { gate = j; stage = Send r }

-- the round that is due at a gate of that class, where that many opened entries wait for a check
unfoldable pub due_in : Class → ℕ → Round
due_in Local waiting = Own
due_in Owned waiting = Own
due_in Opens waiting = Own
due_in Output waiting = cond (eqb waiting 0) Open (Commit First)

-- the point of a run that has come to gate j, or to the end
unfoldable pub came_to : List ℕ → ℕ → ℕ → Point
came_to c j waiting =
    cond (ltb j (gates c)) (due_at j (due_in (shape (gate c j)).class waiting)) (finished c)

-- where the numbers of the gate stand for party i
unfoldable pub site_of : List ℕ → Course → ℕ → Site
site_of c s i =
    record { gate = s.point.gate; prep = s.prep; unchecked = unchecked c s.point.gate; input = input_at c i s.point.gate }

-- all parties between two rounds, where held has the check share of each, and l is the scratch of all. A joint run never names a party
unfoldable pub state_of : Frame → Course → List ℕ → List ℕ → State
state_of f s held l =
    record {
      point = s.point;
      held = λ i. get_or held i 0;
      scratch = band f.scratch l;
      used = s.used;
      checks = s.checks;
      blame = Nobody;
    }

-- the numbers of a frame are those of a circuit and a number of parties
pub record Framed (n : ℕ) (c : List ℕ) (f : Frame) : Type 0 where
  pub parties : f.parties ≡ n
  pub lay : layout_of f.layout ≡ layout c
  pub scratch : f.scratch ≡ scratch_size n c
  pub prep : f.prep ≡ prep_size c

-- what questions 1 to 11 make sure of, and the frame
pub record Lent (J : Joint) (f : Frame) : Type 0 where
  pub framed : Framed J.parties J.circuit f
  pub some : fewest_parties ≤ J.parties
  pub few : J.parties ≤ most_parties
  pub valid : Valid J.parties size J.circuit
  pub preps_long : length J.preps ≡ J.parties * prep_size J.circuit
  pub preps_low : Below size J.preps
  pub inputs_long : length J.inputs ≡ in_count J.circuit
  pub inputs_low : Below size J.inputs

-- questions 8 to 12 of the joint run, of the lengths wanted
abbrev pub lists_of : List ℕ → ℕ → List ℕ → ℕ → ℕ → ℕ → Verdict
lists_of preps prep inputs ins room scratch =
    ask 8 0 (eqb (length preps) prep)
    then elements 9 size preps
    then ask 10 0 (eqb (length inputs) ins)
    then elements 11 size inputs
    then ask 12 0 (leb scratch room)

-- and 16, 17, 25 and 18, of the lengths wanted
abbrev pub rooms_of : List ℕ → ℕ → ℕ → ℕ → ℕ → ℕ → ℕ → ℕ → Verdict
rooms_of coefficients has_coefficient_count nonces nonce_count words transcript outs outputs =
    ask 16 0 (eqb (length coefficients) has_coefficient_count)
    then elements 17 size coefficients
    then ask 25 0 (eqb nonces nonce_count)
    then ask 18 0 (leb words transcript && leb outs outputs)

-- the part of a list from a up to b
abbrev pub part : ℕ → ℕ → List ℕ → List ℕ
part a b xs = take (b - a) (drop a xs)

-- party i's preprocessing from number a on, and its key share
abbrev pub prep_from : Frame → List ℕ → ℕ → ℕ → List ℕ
prep_from f preps a i = drop a (band f.prep preps i)

abbrev pub key_in : Frame → List ℕ → ℕ → ℕ
key_in f preps i = get_or (band f.prep preps i) 0 0

-- what reading k numbers from number a on of each party's preprocessing asks
pub record Prepared (f : Frame) (preps : List ℕ) (a k : ℕ) : Type 0 where
  pub long : f.parties * f.prep ≤ length preps
  pub low : Below size preps
  pub fits : a + k ≤ f.prep

-- and lending each party its band of the scratch
pub record Banded (f : Frame) (l : List ℕ) : Type 0 where
  pub size : marks_at (layout_of f.layout) + f.parties * commit_words ≤ f.scratch
  pub room : f.parties * f.scratch ≤ length l

-- what holds of each party's band
abbrev pub EachBand : Frame → List ℕ → (ℕ → List ℕ → Type 0) → Type 0
EachBand f l P = (i : ℕ) → i < f.parties → P i (band f.scratch l i)

-- the bands of the scratch are F i, and the excess is that of l
abbrev pub rebanded : Frame → (ℕ → List ℕ) → List ℕ → List ℕ
rebanded f F l = joined f.parties F ++ drop (f.parties * f.scratch) l

-- what the linear gates from gate a on ask of all parties
abbrev pub SettlesAll : Frame → List ℕ → List ℕ → List ℕ → ℕ → Type 0
SettlesAll f c preps l a =
    Prepared f preps 0 1
    × Banded f l
    × (0 < f.parties)
    × EachBand f l (λ i x. Settles size c (layout_of f.layout) (key_in f preps i) x a)

-- and what they leave
abbrev pub settled_all : Frame → List ℕ → List ℕ → List ℕ → ℕ → List ℕ
settled_all f c preps l a =
    rebanded f (λ i. settle ops i (key_in f preps i) c (layout_of f.layout) (f.layout.gates - a) a (band f.scratch l i)) l

-- the first u opened values are the same to all parties
abbrev pub Common : Frame → List ℕ → ℕ → Type 0
Common f l u =
    (i : ℕ) → i < f.parties → (t : ℕ) → t < u
    → read (layout_of f.layout) (band f.scratch l i) (Value t) ≡ read (layout_of f.layout) (band f.scratch l 0) (Value t)

-- the check share of party i over the first k opened entries, whose coefficients start at u
abbrev pub share_in : Frame → List ℕ → List ℕ → ℕ → ℕ → List ℕ → ℕ → ℕ
share_in f preps l k u coefficients i =
    check_share ops (layout_of f.layout) (band f.scratch l i) k (key_in f preps i) (part u (u + k) coefficients)

-- one word of each party
abbrev pub each : ℕ → (ℕ → ℕ) → List ℕ
each n w = joined n (λ i. w i ∷ [])

-- what party i reveals of a check, where held has the check shares and l is the scratch of all
abbrev pub revealed_by : Frame → List ℕ → List ℕ → ℕ → List ℕ
revealed_by f held l i = revealed (get_or held i 0) (nonce_of (layout_of f.layout) (band f.scratch l i))

-- the words of its nonce of check q
abbrev pub nonce_in : Frame → ℕ → List ℕ → ℕ → List ℕ
nonce_in f q nonces i = words_of (band nonce_size nonces (q * f.parties + i))

-- what it reveals of that check, which is of the first k opened entries, and whose coefficients start at u
abbrev pub reveal_in : Frame → List ℕ → List ℕ → ℕ → ℕ → List ℕ → ℕ → List ℕ → ℕ → List ℕ
reveal_in f preps l k u coefficients q nonces i = revealed (share_in f preps l k u coefficients i) (nonce_in f q nonces i)

-- the words of all in both rounds of it
abbrev pub marks_in : Frame → List ℕ → List ℕ → ℕ → ℕ → List ℕ → ℕ → List ℕ → List ℕ
marks_in f preps l k u coefficients q nonces = joined f.parties (λ i. mark (reveal_in f preps l k u coefficients q nonces i))

abbrev pub reveals_in : Frame → List ℕ → List ℕ → ℕ → ℕ → List ℕ → ℕ → List ℕ → List ℕ
reveals_in f preps l k u coefficients q nonces = joined f.parties (reveal_in f preps l k u coefficients q nonces)

-- party i's band once its nonce and the marks of all are written
abbrev pub noted_in : Frame → List ℕ → List ℕ → ℕ → ℕ → List ℕ → ℕ → List ℕ → ℕ → List ℕ
noted_in f preps l k u coefficients q nonces i =
    put_marks (layout_of f.layout) (put_nonce (layout_of f.layout) (band f.scratch l i) (nonce_in f q nonces i))
    (marks_in f preps l k u coefficients q nonces)

-- what check q asks, which is of the first k opened entries: its coefficients start at u, and its words at a
pub record Checks (f : Frame) (preps l : List ℕ) (k u : ℕ) (coefficients : List ℕ) (q : ℕ) (nonces : List ℕ) (a : ℕ) (t : List ℕ) : Type 0 where
  pub some : 0 < f.parties
  pub few : f.parties ≤ most_parties
  pub keys : Prepared f preps 0 1
  pub banded : Banded f l
  pub has_coefficient_count : u + k ≤ length coefficients
  pub coefficients_low : Below size coefficients
  pub nonce_count : nonce_size * (f.parties * (q + 1)) ≤ length nonces
  pub entries : 0 < (layout_of f.layout).capacity
  pub opened : EachBand f l (λ i x. (e : ℕ) → e < k → Opened size (layout_of f.layout) x e)
  pub common : Common f l k
  pub words_fit : a + f.parties * commit_words + f.parties * reveal_words ≤ length t

-- and what it leaves; e is the sum of the check shares
pub record Checked (f : Frame) (preps l : List ℕ) (k u : ℕ) (coefficients : List ℕ) (q : ℕ) (nonces : List ℕ) (a : ℕ) (t : List ℕ) (e : ℕ) (l' t' : List ℕ) : Type 0 where
  pub sum : Is size (heard_sum ops f.parties reveal_words 0 (reveals_in f preps l k u coefficients q nonces)) e
  pub scratch : l' ≡ rebanded f (noted_in f preps l k u coefficients q nonces) l
  pub transcript : t'
      ≡ written_at (a + f.parties * commit_words) (reveals_in f preps l k u coefficients q nonces)
      (written_at a (marks_in f preps l k u coefficients q nonces) t)

-- where a run stands after a check of k entries that lets it go on
abbrev pub checked_stop : Frame → ℕ → Stop → Stop
checked_stop f k s =
    record {
      gate = s.gate;
      prep = s.prep;
      waiting = 0;
      used = s.used + k;
      checks = s.checks + 1;
      written = s.written + f.parties * commit_words + f.parties * reveal_words;
      released = s.released;
      rounds = s.rounds + 2;
    }

-- what the words of party i in round r are
abbrev pub said_by : Ops → Joint → State → Round → ℕ → List ℕ
said_by O J s r i = sent O (party J i) (s.scratch i) s.point.gate (s.held i) (taken O J s r) (nonce_for J s.checks i) r

-- what its scratch is once it has received the words of all in round r of gate j, where l is the scratch of all
abbrev pub received_in : Frame → Joint → ℕ → List ℕ → Round → List ℕ → ℕ → List ℕ
received_in f J j l r heard i = received ops (party J i) (band f.scratch l i) j r heard

-- what round r asks of all parties. held has the check share of each, which a reveal sends, and l is the scratch of all
pub record Going (J : Joint) (f : Frame) (s : Course) (r : Round) (held l : List ℕ) : Type 0 where
  pub lent : Lent J f
  pub room : J.parties * f.scratch ≤ length l
  pub prep_is : s.prep ≡ prep_at J.circuit s.point.gate
  pub eight : length held ≡ most_parties
  pub held_low : (i : ℕ) → i < J.parties → get_or held i 0 < size
  pub held_none : is_reveal r ≡ false → (i : ℕ) → i < J.parties → get_or held i 0 ≡ 0
  pub ready : (i : ℕ) → i < J.parties → Ready size (party J i) (band f.scratch l i) f.layout (site_of J.circuit s i) r
  pub has_coefficient_count : s.used + coefficients_in (unchecked J.circuit s.point.gate) r ≤ length J.coefficients
  pub coefficients_low : Below size J.coefficients
  pub nonce_count : nonce_size * (J.parties * (s.checks + commits_in r)) ≤ length J.nonces

-- and of the transcript t that it writes to
pub record Moving (J : Joint) (f : Frame) (s : Course) (r : Round) (held l t : List ℕ) : Type 0 where
  pub going : Going J f s r held l
  pub words_fit : s.written + J.parties * words (gate J.circuit s.point.gate) r ≤ length t
  pub rounds_few : s.rounds < most_rounds ops J * gates J.circuit

-- two states are the same to n parties
pub record Alike (n : ℕ) (s s' : State) : Type 0 where
  pub point : s.point ≡ s'.point
  pub held : (i : ℕ) → i < n → s.held i ≡ s'.held i
  pub scratch : (i : ℕ) → i < n → s.scratch i ≡ s'.scratch i
  pub used : s.used ≡ s'.used
  pub checks : s.checks ≡ s'.checks
  pub blame : s.blame ≡ s'.blame

-- what a round leaves, its outputs aside
pub record Moved (J : Joint) (f : Frame) (s : Course) (r : Round) (held l t : List ℕ) (s' : Course) (held' l' t' : List ℕ) : Type 0 where
  pub alike : Alike J.parties (state_of f s' held' l') (step ops J (state_of f s held l) r)
  pub prep_is : (r' : Round) → s'.point.stage ≡ Send r' → s'.prep ≡ prep_at J.circuit s'.point.gate
  pub eight : length held' ≡ most_parties
  pub held_low : (i : ℕ) → i < J.parties → get_or held' i 0 < size
  pub long : length l' ≡ length l
  pub excess : drop (J.parties * f.scratch) l' ≡ drop (J.parties * f.scratch) l
  pub transcript : t' ≡ written_at s.written (said ops J (state_of f s held l) r) t
  pub written : s'.written ≡ s.written + length (said ops J (state_of f s held l) r)
  pub rounds : s'.rounds ≡ s.rounds + 1

-- and the outputs o
pub record Turned (J : Joint) (f : Frame) (s : Course) (r : Round) (held l t o : List ℕ) (s' : Course) (held' l' t' o' : List ℕ) : Type 0 where
  pub moved : Moved J f s r held l t s' held' l' t'
  pub outputs : o' ≡ written_at s.released (released ops J (state_of f s held l) r) o
  pub given : s'.released ≡ s.released + length (released ops J (state_of f s held l) r)

-- nobody holds a check share
abbrev pub none_held : List ℕ
none_held = replicate most_parties 0

-- a round that uses no coefficient and releases nothing
pub record Kept (s s' : Stop) : Type 0 where
  pub used : s'.used ≡ s.used
  pub released : s'.released ≡ s.released

-- the run has passed the gate of s; s' is before the linear gates after it
pub record Passed (c : List ℕ) (s s' : Stop) : Type 0 where
  pub gate : s'.gate ≡ s.gate + 1
  pub waiting : s'.waiting ≡ unchecked c (s.gate + 1)

-- what all questions make sure of
pub record Runnable (J : Joint) (f : Frame) (l t o : List ℕ) : Type 0 where
  pub lent : Lent J f
  pub room : J.parties * f.scratch ≤ length l
  pub has_coefficient_count : length J.coefficients ≡ coefficient_count J.circuit
  pub coefficients_low : Below size J.coefficients
  pub nonce_count : length J.nonces ≡ nonce_size * (J.parties * check_count J.circuit)
  pub words_fit : J.parties * word_count J.circuit ≤ length t
  pub outputs_fit : out_count J.circuit ≤ length o

-- what a run leaves
pub record Ran (J : Joint) (l t o : List ℕ) (a : Ending) (l' t' o' : List ℕ) : Type 0 where
  pub answer : ending_of a
      ≡ E.ended (whole ops J l).last.point.stage (whole ops J l).last.point.gate (whole ops J l).last.blame (whole ops J l).rounds
  pub scratch : l' ≡ joined J.parties (whole ops J l).last.scratch ++ drop (J.parties * scratch_size J.parties J.circuit) l
  pub transcript : t' ≡ overwrite (whole ops J l).transcript t
  pub outputs : o' ≡ overwrite (whole ops J l).outputs o
