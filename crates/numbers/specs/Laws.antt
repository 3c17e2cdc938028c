pub mod ShortestForm  -- each number has one accepted form, the shortest
