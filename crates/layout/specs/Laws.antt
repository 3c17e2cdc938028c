pub mod RefusalNumbers  -- no layout is refused with 31, and no step
pub mod AcceptedSteps  -- the steps of an accepted layout write frames of 4·L bytes that the part has and the range owns
pub mod AcceptedLayout  -- what an accepted check tells of the device and of the layout's head
pub mod ByteFrames  -- the frames of a layout's steps are bytes, since the layout is
pub mod Coding  -- an accepted layout is the code of its steps, and reading that code gives the steps
pub mod ViewConverse  -- bytes as a view of a target or a step says are read as that target or step
pub mod UnownedFrames  -- the reference machine keeps every frame that is not owned, and the memory's length
pub mod WiderRange  -- what is accepted for some frames is accepted for more of them, with the same steps
pub mod StepViews  -- what a target or a step that was read tells of the bytes
pub mod LayoutViews  -- what a list of steps and a whole layout that was read tell of the bytes
pub mod NoPart  -- what is read for a device number that names no part: no step is accepted
